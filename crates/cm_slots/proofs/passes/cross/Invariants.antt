use Rattle.cm_slots.specs.Runs.{HasCrossed}
use Rattle.cm_slots.proofs.Runs.{ArePaired}
use Rattle.cm_slots.proofs.passes.cross.Given as goal

abbrev pub invariant-loop-t : goal.invariant-loop-t
invariant-loop-t l = ArePaired l.dim (HasCrossed l.order l.sizes.room l.dim) l.initial.tiles l.tiles l.t
