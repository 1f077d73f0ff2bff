use Rattle.cm_slots.specs.Runs.{leavers_at, HasDeparted}
use Rattle.cm_slots.proofs.Runs.{AreDone}
use Rattle.cm_slots.proofs.departing.take_out.Given as goal

abbrev pub invariant-loop-t : goal.invariant-loop-t
invariant-loop-t l =
    AreDone (λ t old new. HasDeparted l.sizes.room l.dim old new (leavers_at l.leaving t)) l.initial.tiles l.tiles l.t
