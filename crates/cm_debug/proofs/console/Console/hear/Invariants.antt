use Rattle.std.proofs.Common.{◌≡◌, ◌-◌, ◌≤◌, false, length, take}
use Rattle.cm_debug.specs.Talk.{talk}
use Rattle.cm_debug.specs.Taking.{HasTaken}
use Rattle.cm_debug.proofs.console.Console.hear.Given as goal

abbrev pub invariant-loop-done : goal.invariant-loop-done
invariant-loop-done g l = record {
  working : g.O.Sink.has_failed l.out ≡ false;
  within : l.done ≤ length l.piece;
  taken : HasTaken g.S.Sizes.n g.S.Sizes.cap
      (talk l.fn.machine.machine l.fn.self (g.O.Sink.contents l.fn.out) (g.R.Runner.threads_lacked l.fn.runner))
      (take l.done l.piece)
      (talk l.machine.machine l.self (g.O.Sink.contents l.out) (g.R.Runner.threads_lacked l.runner));
}

abbrev pub decreases-loop-done : goal.decreases-loop-done
decreases-loop-done g l = length l.piece - l.done
