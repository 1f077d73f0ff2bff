use Rattle.std.proofs.Common.{◌≡◌, ◌+◌, ◌<◌, ◌≤◌, ℕ, length, slice_index}
use Rattle.cm_slots.specs.Slots.{AreSlotRows, slot_in, slot_behind, leaver_in, IsCarried}
use Rattle.cm_slots.proofs.rows.leave_lanes.Given as goal

abbrev pub invariant-loop-k : goal.invariant-loop-k
invariant-loop-k l = record {
  shape : AreSlotRows l.first l.rest;
  long : length l.carried ≡ 16;
  value : (j : ℕ) → j < 16 → IsCarried (leaver_in l.dim l.k (slot_in l.first l.initial.rest (l.at + j)))
      (slot_in l.first l.initial.rest (l.at + j)) (slice_index l.carried j) (slot_behind l.rest (l.at + j));
  before : (i j : ℕ) → i < l.at → slot_behind l.rest i j ≡ slot_behind l.initial.rest i j;
  behind : (i j : ℕ) → l.at + 16 ≤ i → slot_behind l.rest i j ≡ slot_behind l.initial.rest i j;
}
