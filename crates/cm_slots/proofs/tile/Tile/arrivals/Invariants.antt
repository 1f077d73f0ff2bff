use Rattle.std.proofs.Common.{◌≡◌, ◌<◌, ℕ, true, false}
use Rattle.std.specs.List.{list_any}
use Rattle.cm_bits.specs.Bit.{bit}
use Rattle.cm_slots.specs.Slots.{is_arrival}
use Rattle.cm_slots.specs.Tiles.{slots_of, numbers_standing_at}
use Rattle.cm_slots.proofs.tile.Tile.arrivals.Given as goal

abbrev pub invariant-loop-k : goal.invariant-loop-k
invariant-loop-k l = record {
  some : (i : ℕ) → i < 64 → bit l.lanes i ≡ true → list_any is_arrival (numbers_standing_at l.self i) ≡ true;
  none : (i j : ℕ) → i < 64 → j < l.k → bit l.lanes i ≡ false → is_arrival (slots_of l.self i j) ≡ false;
}
