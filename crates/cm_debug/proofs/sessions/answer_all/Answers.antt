use Rattle.std.proofs.Common.{ℕ, length, replicate, false, refl, ap, sym, ◌∙◌, arith}
use Rattle.cm_debug.specs.Talk.{setting, talk}
use Rattle.cm_debug.proofs.Ending.{ended_first, told_first, ended_closed, ended_answered, ended_broken, of_acts}
use Rattle.cm_debug.proofs.Ending.{is_none, has_some, read_on}
use Rattle.cm_debug.proofs.sessions.answer_all.Goals as goal

pub returns-in_default-clause-ended : goal.returns-in_default-clause-ended
returns-in_default-clause-ended g c =
    ended_first g.S.Sizes.n g.S.Sizes.cap (setting c.args.acts.now c.args.machine.now.machine
    (g.O.Sink.contents c.args.out.now) (g.R.Runner.threads_lacked c.args.runner.now)) (g.I.Source.left c.args.commands.now)

pub hear_all-requires : goal.hear_all-requires
hear_all-requires g c =
    let new = c.in-Ok.ensures in
    let first = told_first g.S.Sizes.n g.S.Sizes.cap (setting c.in-Ok.console.debugger.acts.now c.args.machine.now.machine
    (g.O.Sink.contents c.args.out.now) (g.R.Runner.threads_lacked c.args.runner.now))
    (talk c.args.machine.now.machine c.in-Ok.console (g.O.Sink.contents c.args.out.now)
    (g.R.Runner.threads_lacked c.args.runner.now)) refl
    (λ i. record {
      machine = c.args.machine.now.machine;
      position = new.position i;
      breaks = (new.breaks ∙ ap (λ (k : ℕ). replicate k false) (ap length (sym new.acts))) i;
      report = new.trace i;
    }) new.line refl new.none new.sent refl in
    record {
      runner = c.requires.runner;
      reader = c.requires.reader;
      writer = c.requires.writer;
      first = first;
      none = new.none;
      sent = new.sent;
    }

pub returns-in-Err-clause-ended : goal.returns-in-Err-clause-ended
returns-in-Err-clause-ended g c = of_acts _ c.in-Ok.ensures.acts c.in-Err.ensures.takes

pub returns-then-is_empty-clause-ended : goal.returns-then-is_empty-clause-ended
returns-then-is_empty-clause-ended g c = of_acts _ c.in-Ok.ensures.acts
    (ended_closed c.in-Ok-hear_all.ensures.takes c.in-Ok-hear_all.ensures.none
    (is_none c.hear_all.new.self.line.items c.hear_all.new.self.line.len c.is_empty.result
    (omega (arith, c.hear_all.new.self.line.ok.0)) c.is_empty.ensures c.if-is_empty.true))

pub returns-in-Ok-feed-clause-ended : goal.returns-in-Ok-feed-clause-ended
returns-in-Ok-feed-clause-ended g c = of_acts _ c.in-Ok.ensures.acts
    (ended_answered c.in-Ok-hear_all.ensures.takes
    (has_some c.hear_all.new.self.line.items c.hear_all.new.self.line.items c.hear_all.new.self.line.len
    c.is_empty.result (omega (arith, c.hear_all.new.self.line.ok.0)) c.is_empty.ensures c.if-is_empty.false refl)
    c.in-Ok-feed.ensures.takes c.in-Ok-feed.ensures.none)

pub returns-clause-ended : goal.returns-clause-ended
returns-clause-ended g c = of_acts _ c.in-Ok.ensures.acts
    (ended_broken c.in-Ok-hear_all.ensures.takes
    (has_some c.hear_all.new.self.line.items c.hear_all.new.self.line.items c.hear_all.new.self.line.len
    c.is_empty.result (omega (arith, c.hear_all.new.self.line.ok.0)) c.is_empty.ensures c.if-is_empty.false refl)
    c.in-Err-feed.ensures.takes)

pub returns-clause-read : goal.returns-clause-read
returns-clause-read g c =
    let all = c.in-Ok-hear_all.ensures.takes in
    read_on c.in-Err-feed.fault (g.I.Source.has_failed c.hear_all.new.commands) c.in-Ok-hear_all.ensures.reading
    (c.in-Err-feed.ensures.takes.broken _ all.text all.told)
