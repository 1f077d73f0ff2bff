use Rattle.std.proofs.Common.{◌≡◌, ◌*◌, ◌<◌, ◌≤◌, ℕ, slice_index}
use Rattle.cm_slots.specs.Slots.{AreSlotRows, slot_in, slot_behind, leaver_in, IsCarried}
use Rattle.cm_slots.proofs.rows.leave.Given as goal

abbrev pub invariant-loop-b : goal.invariant-loop-b
invariant-loop-b l = record {
  shape : AreSlotRows l.first l.rest;
  value : (i : ℕ) → i < l.b * 16 → IsCarried (leaver_in l.dim l.count (slot_in l.initial.first l.initial.rest i))
      (slot_in l.initial.first l.initial.rest i) (slice_index l.first i) (slot_behind l.rest i);
  ahead : (i j : ℕ) → l.b * 16 ≤ i → slot_in l.first l.rest i j ≡ slot_in l.initial.first l.initial.rest i j;
}
