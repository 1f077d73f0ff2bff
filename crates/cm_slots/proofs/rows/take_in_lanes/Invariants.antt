use Rattle.std.proofs.Common.{◌≡◌, ◌+◌, ◌<◌, ◌≤◌, ℕ, List, length, slice_index}
use Rattle.cm_slots.specs.Slots.{AreSlotRows, slot_behind, AreSlots}
use Rattle.cm_slots.proofs.Carrying.{IsBrought}
use Rattle.cm_slots.proofs.rows.take_in_lanes.Given as goal

abbrev pub invariant-loop-k : goal.invariant-loop-k
invariant-loop-k l = record {
  shape : AreSlotRows l.first l.rest;
  long : length l.carried ≡ 16;
  value : (j : ℕ) (xs : List ℕ) → j < 16 → length xs ≤ l.count → AreSlots (slot_behind l.initial.rest (l.at + j)) xs
      → IsBrought l.k xs (slice_index l.first (l.at + j)) (slice_index l.carried j) (slot_behind l.rest (l.at + j));
  before : (i j : ℕ) → i < l.at → slot_behind l.rest i j ≡ slot_behind l.initial.rest i j;
  behind : (i j : ℕ) → l.at + 16 ≤ i → slot_behind l.rest i j ≡ slot_behind l.initial.rest i j;
}
