use Rattle.std.proofs.Common.{◌<◌, ℕ, min, slice_index}
use Rattle.cm_slots.specs.Slots.{AreSlotRows, slot_in, slot_behind, IsCarried}
use Rattle.cm_slots.proofs.choice.leave_from.Given as goal

abbrev pub invariant-loop-k : goal.invariant-loop-k
invariant-loop-k l = record {
  shape : AreSlotRows l.first l.rest;
  value : (i : ℕ) → i < 64 → IsCarried (min (slice_index l.places i) l.k)
      (slot_in l.initial.first l.initial.rest i) (slice_index l.first i) (slot_behind l.rest i);
}
