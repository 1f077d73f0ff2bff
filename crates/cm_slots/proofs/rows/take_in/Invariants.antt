use Rattle.std.proofs.Common.{◌≡◌, ◌*◌, ◌<◌, ◌≤◌, ◌++◌, ℕ, List, length, slice_index}
use Rattle.cm_slots.specs.Slots.{AreSlotRows, slot_in, slot_behind, comers, AreSlots}
use Rattle.cm_slots.proofs.rows.take_in.Given as goal

abbrev pub invariant-loop-b : goal.invariant-loop-b
invariant-loop-b l = record {
  shape : AreSlotRows l.first l.rest;
  value : (i : ℕ) (xs : List ℕ) → i < l.b * 16 → length xs ≤ l.count → length xs < 15
      → AreSlots (slot_behind l.initial.rest i) xs
      → AreSlots (slot_in l.first l.rest i) (xs ++ comers (slice_index l.initial.first i));
  ahead : (i j : ℕ) → l.b * 16 ≤ i → slot_in l.first l.rest i j ≡ slot_in l.initial.first l.initial.rest i j;
}
