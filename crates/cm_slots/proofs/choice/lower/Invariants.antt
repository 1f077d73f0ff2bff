use Rattle.std.proofs.Common.{min, slice_index}
use Rattle.cm_slots.specs.Choice.{slot_key}
use Rattle.cm_slots.proofs.Carrying.{AreDone}
use Rattle.cm_slots.proofs.choice.lower.Given as goal

abbrev pub invariant-loop-i : goal.invariant-loop-i
invariant-loop-i l =
    AreDone (λ i. min (slot_key l.dim l.place (slice_index l.row i)) (slice_index l.initial.least i)) l.initial.least
    l.least l.i
