use Rattle.std.proofs.Common.{refl, sym, ◌∙◌, rules}
use Rattle.cm_debug.specs.declared.out_of.OutOf.TheVariants.{Memory}
use Rattle.cm_debug.specs.State.{session_of, state, stops_at}
use Rattle.cm_debug.proofs.Coming.{refused_here, ended_here, none_gone, gone_on, gone_left, stop_left, gone_done}
use Rattle.cm_debug.proofs.Coming.{stop_done}
use Rattle.cm_debug.proofs.debugger.Debugger.run_on.Goals as goal

pub loop-self-init : goal.loop-self-init
loop-self-init g c = none_gone g.S.Sizes.n g.S.Sizes.cap c.args.stops (state c.args.machine.now.machine c.args.self.now
    c.args.text.now.items (g.R.Runner.threads_lacked c.args.runner.now))

pub loop-self-preserved : goal.loop-self-preserved
loop-self-preserved g c =
    gone_on c.loop-self.invariant c.in_ok-run_stretch.ensures.ran
    (sym c.stops_here.ensures.value ∙ c.if-stops_here.false)

-- ---- it is told why nothing more is run

pub returns-then-lacks_room : goal.returns-then-lacks_room
returns-then-lacks_room g c = record {
  goes = gone_done c.loop-self.invariant
      (refused_here g.S.Sizes.n g.S.Sizes.cap (stops_at c.args.stops c.loop-self.self.breakpoints.items)
      (session_of c.loop-self.machine.machine c.loop-self.self)
      c.loop-self.self.acts.now _ c.index-rest-0.result c.clock.result c.loop-self-test.true refl c.index-rest-0.is
      c.clock.ensures.value (sym c.lacks_room.ensures.value ∙ c.if-lacks_room.true))
      c.in_ok-push_number.ensures.ok;
}

pub returns-then-stops_here : goal.returns-then-stops_here
returns-then-stops_here g c = record {
  goes = stop_done c.loop-self.invariant c.in_ok-run_stretch.ensures.ran
      (sym c.stops_here.ensures.value ∙ c.if-stops_here.true) c.in_ok-push_number-2.ensures.ok;
}

pub returns : goal.returns
returns g c = record {
  goes = gone_done c.loop-self.invariant
      (ended_here g.S.Sizes.n g.S.Sizes.cap (stops_at c.args.stops c.loop-self.self.breakpoints.items)
      (session_of c.loop-self.machine.machine c.loop-self.self) c.loop-self.self.acts.now c.loop-self-test.false)
      c.in_ok-push_word.ensures.ok;
}

-- ---- it is given up

pub returns-in_err-push_number : goal.returns-in_err-push_number
returns-in_err-push_number g c = record {
  goes = gone_left (state c.loop-self.machine.machine c.loop-self.self c.push_number.new.text.items
      (g.R.Runner.threads_lacked c.loop-self.runner)) c.from_residual.result Memory (search rules)
      c.loop-self.invariant refl refl;
}

pub returns-in_err-run_stretch : goal.returns-in_err-run_stretch
returns-in_err-run_stretch g c = record {
  goes = gone_left (state c.run_stretch.new.machine.machine c.run_stretch.new.self c.run_stretch.new.text.items
      (g.R.Runner.threads_lacked c.run_stretch.new.runner)) c.from_residual-in_err-run_stretch.result
      c.in_err-run_stretch.field-0.0 (search rules) c.loop-self.invariant
      c.in_err-run_stretch.ensures.ran.machine c.in_err-run_stretch.ensures.ran.lacked;
}

pub returns-in_err-push_number-2 : goal.returns-in_err-push_number-2
returns-in_err-push_number-2 g c = record {
  goes = stop_left (state c.run_stretch.new.machine.machine c.run_stretch.new.self
      c.push_number-then-stops_here.new.text.items (g.R.Runner.threads_lacked c.run_stretch.new.runner))
      c.from_residual-in_err-push_number-2.result Memory (search rules) c.loop-self.invariant
      c.in_ok-run_stretch.ensures.ran refl refl;
}

pub returns-in_err-push_word : goal.returns-in_err-push_word
returns-in_err-push_word g c = record {
  goes = gone_left (state c.loop-self.machine.machine c.loop-self.self c.push_word.new.text.items
      (g.R.Runner.threads_lacked c.loop-self.runner)) c.from_residual-in_err-push_word.result Memory (search rules)
      c.loop-self.invariant refl refl;
}
