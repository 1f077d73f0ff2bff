use Rattle.std.proofs.Common.{slice_index}
use Rattle.cm_slots.specs.Choice.{place_found}
use Rattle.cm_slots.proofs.Carrying.{AreDone}
use Rattle.cm_slots.proofs.choice.find.Given as goal

abbrev pub invariant-loop-i : goal.invariant-loop-i
invariant-loop-i l =
    AreDone (λ i. place_found (slice_index l.initial.least i) (slice_index l.last i)) l.initial.least l.least l.i
