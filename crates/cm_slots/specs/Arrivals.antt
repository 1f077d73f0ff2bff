-- At which chips of a tile a ticket stands whose message has arrived, as bits. Ours.
use Rattle.std.specs.Prelude.{ℕ, ◌<◌, ◌≤◌, ◌≡◌, ◌/◌, ◌%◌, Bool, true, false, List, Some}
use Rattle.std.specs.List.{list_any}
use Rattle.cm_bits.specs.Bit.{bit}
use Rattle.cm_slots.specs.declared.arrivals.Arrivals.{Arrivals}
use Rattle.cm_slots.specs.declared.tile.Tile.{Tile}
use Rattle.cm_slots.specs.Tickets.{has_come}
use Rattle.cm_slots.specs.Runs.{tickets_of}

-- of the tile that was looked at, each chip from one on and below a count passes this test if its bit is 1, and only then
abbrev pub AreArrivals : Arrivals → ℕ → ℕ → (ℕ → Bool) → Type 0
AreArrivals known from count has_arrival =
    (c : ℕ) → from ≤ c → c < count → known.tile ≡ Some (c / 64) → bit known.lanes (c % 64) ≡ has_arrival c

-- whether a message has arrived at a chip of these tiles
abbrev pub has_come_at : List Tile → ℕ → Bool
has_come_at tiles c = list_any has_come (tickets_of tiles c)

-- the lane at a place is 1, and none before it, from a place on, is
pub record AreLanesFrom (lanes from place : ℕ) : Type 0 where
  pub behind : from ≤ place
  pub below : place < 64
  pub here : bit lanes place ≡ true
  pub none : (i : ℕ) → from ≤ i → i < place → bit lanes i ≡ false
