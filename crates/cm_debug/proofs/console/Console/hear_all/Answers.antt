use Rattle.std.proofs.Common.{◌≡◌, ℕ, ◌≤◌, List, [], ◌++◌, length, take, refl, ap, sym, subst, arith, rules, length-append}
use Rattle.std.proofs.lemmas.Grind.{common_steps}
use Rattle.std.proofs.KnownBytes.{Consumes-nil, Consumes-trans}
use Rattle.std.specs.Io.KnownBytes.{Consumes}
use Rattle.cm_debug.proofs.Ending.{ended_read, ended_in_read, ended_over, read_on, taken_all}
use Rattle.cm_debug.proofs.console.Console.hear_all.Goals as goal

pub loop-count-init : goal.loop-count-init
loop-count-init g c = record {
  text = [];
  read = Consumes-nil (g.I.Source.left c.args.commands.now);
  told = c.requires.first;
  none = c.requires.none;
  count = refl;
  within = omega arith;
  few = omega (arith, c.requires.sent);
  reading = c.requires.reader;
  writing = c.requires.writer;
}

pub loop-count-preserved : goal.loop-count-preserved
loop-count-preserved g c =
    let so = c.loop-count.invariant in
    let fed = c.in-Ok-feed.ensures in
    let all : c.min-room.result ≡ c.in-Ok.count = omega (arith, c.min-room.ensures, c.if-room-count.false) in
    let long : length (take c.min-room.result c.read.new.buf) ≡ c.min-room.result =
    taken_long _ _ (omega (arith, all, c.in-Ok.ensures.bound.0)) in
    record {
      text = so.text ++ take c.min-room.result c.read.new.buf;
      read = Consumes-trans _ _ _ _ _ so.read (subst (λ (k : ℕ). Consumes (g.I.Source.left c.loop-count.commands)
          (g.I.Source.left c.read.new.self) (take k c.read.new.buf)) (sym all) c.in-Ok.ensures.bytes.0);
      told = fed.takes.told _ so.text so.told;
      none = fed.none;
      count = omega (arith, so.count, long, length-append so.text (take c.min-room.result c.read.new.buf));
      within = omega (arith, c.min-room.ensures, so.within);
      few = omega (arith, fed.takes.few, so.few, long, ap length so.none, ap length fed.none);
      reading = search rules;
      writing = fed.failed;
    } where
      taken_long : (k : ℕ) (xs : List ℕ) → k ≤ length xs → length (take k xs) ≡ k
      taken_long k xs h = grind (arith, common_steps)

pub returns-in_default-clause-takes : goal.returns-in_default-clause-takes
returns-in_default-clause-takes g c =
    let so = c.loop-count.invariant in
    ended_read (g.I.Source.left c.args.commands.now) (g.I.Source.left c.loop-count.commands)
    (g.I.Source.left c.read.new.self) so.read (search rules) (omega (arith, so.count, so.within)) so.none so.told

pub returns-then-count-eq0-clause-takes : goal.returns-then-count-eq0-clause-takes
returns-then-count-eq0-clause-takes g c =
    let so = c.loop-count.invariant in
    taken_all (g.I.Source.left c.args.commands.now) (g.I.Source.left c.loop-count.commands)
    (g.I.Source.left c.read.new.self) c.read.new.buf c.in-Ok.count c.if-count-eq0.true so.read
    c.in-Ok.ensures.bytes.0 (c.in-Ok.ensures.bytes.1 c.if-count-eq0.true (omega arith))
    (omega (arith, so.count, so.within)) so.told

pub returns-in-Err-clause-takes : goal.returns-in-Err-clause-takes
returns-in-Err-clause-takes g c =
    let so = c.loop-count.invariant in
    ended_in_read (g.I.Source.left c.args.commands.now) (g.I.Source.left c.loop-count.commands)
    (g.I.Source.left c.read.new.self) so.text c.read.new.buf c.in-Ok.count c.min-room.result c.loop-count.taken
    (omega (arith, c.in-Ok.ensures.bound)) c.min-room.ensures so.count so.within so.read c.in-Ok.ensures.bytes.0
    (c.in-Err.ensures.takes.broken _ so.text so.told)

pub returns-then-room-count-clause-takes : goal.returns-then-room-count-clause-takes
returns-then-room-count-clause-takes g c =
    let so = c.loop-count.invariant in
    ended_over (g.I.Source.left c.args.commands.now) (g.I.Source.left c.loop-count.commands)
    (g.I.Source.left c.read.new.self) so.text c.read.new.buf c.in-Ok.count c.min-room.result c.loop-count.taken
    (omega (arith, c.in-Ok.ensures.bound)) c.in-Ok.ensures.bound.0 c.min-room.ensures c.if-room-count.true so.count so.within so.read
    c.in-Ok.ensures.bytes.0 c.in-Ok-feed.ensures.none
    (c.in-Ok-feed.ensures.takes.told _ so.text so.told)

pub returns-then-count-eq0-clause-few : goal.returns-then-count-eq0-clause-few
returns-then-count-eq0-clause-few g c = omega (arith, c.loop-count.invariant.few, c.loop-count.invariant.within)

pub returns-in-Err-clause-read : goal.returns-in-Err-clause-read
returns-in-Err-clause-read g c =
    read_on c.in-Err.fault (g.I.Source.has_failed c.read.new.self) (search rules)
    (c.in-Err.ensures.takes.broken _ c.loop-count.invariant.text c.loop-count.invariant.told)
