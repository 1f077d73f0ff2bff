use Rattle.std.proofs.Common.{slice_index}
use Rattle.cm_slots.specs.Slots.{slot_across}
use Rattle.cm_slots.proofs.Carrying.{AreDone}
use Rattle.cm_slots.proofs.across.trade.Given as goal

abbrev pub invariant-loop-i : goal.invariant-loop-i
invariant-loop-i l = record {
  here : AreDone (λ i. slot_across l.dim (slice_index l.initial.there i)) l.initial.here l.here l.i;
  there : AreDone (λ i. slot_across l.dim (slice_index l.initial.here i)) l.initial.there l.there l.i;
}
