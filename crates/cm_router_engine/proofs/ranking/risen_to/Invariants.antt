use Rattle.std.proofs.Common.{◌-◌, length}
use Rattle.cm_router_engine.specs.Standing.{AreByAge}
use Rattle.cm_router_engine.proofs.ranking.risen_to.Given as goal

abbrev pub invariant-loop-risen : goal.invariant-loop-risen
invariant-loop-risen l = AreByAge l.row l.risen

abbrev pub decreases-loop-risen : goal.decreases-loop-risen
decreases-loop-risen l = length l.row - l.risen
