use Rattle.std.proofs.Common.{◌-◌, length}
use Rattle.cm_debug.specs.State.{state}
use Rattle.cm_debug.proofs.Coming.{HasGone}
use Rattle.cm_debug.proofs.debugger.Debugger.run_on.Given as goal

abbrev pub invariant-loop-self : goal.invariant-loop-self
invariant-loop-self g l = HasGone g.S.Sizes.n g.S.Sizes.cap l.stops
    (state l.initial.machine.machine l.initial.self l.initial.text.items (g.R.Runner.threads_lacked l.initial.runner))
    (state l.machine.machine l.self l.text.items (g.R.Runner.threads_lacked l.runner))

abbrev pub decreases-loop-self : goal.decreases-loop-self
decreases-loop-self g l = length l.self.acts.now - l.self.position
