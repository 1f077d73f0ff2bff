use Rattle.std.proofs.Common.{slice_index}
use Rattle.cm_slots.specs.Slots.{slot_across}
use Rattle.cm_slots.proofs.Carrying.{AreDone}
use Rattle.cm_slots.proofs.across.flip.Given as goal

abbrev pub invariant-loop-i : goal.invariant-loop-i
invariant-loop-i l = AreDone (λ i. slot_across l.dim (slice_index l.row i)) l.initial.going l.going l.i
