-- Tiles: 64 chips that stand side by side, and what a dimension's two passes make of one. Ours.
use Rattle.std.specs.Prelude.{ℕ, ◌<◌, ◌≤◌, ◌≡◌, ◌≢◌, ◌++◌, true, false, List, [], length, map, slice_index}
use Rattle.cm_slots.specs.declared.tile.Tile.{Tile}
use Rattle.cm_model.specs.Buffers.{without}
use Rattle.cm_slots.specs.declared.order.Order.{Order}
use Rattle.cm_slots.specs.Tickets.{ticket_of, ticket_in}
use Rattle.cm_slots.specs.Slots.{is_taken, comers, slot_across, slot_in, slot_behind, standing_in}
use Rattle.cm_slots.specs.Choice.{place_by, going_by}
use Rattle.cm_slots.specs.Slots.{AreSlotRows, AreSlots}

-- the slots of the chip at place i
abbrev pub slots_of : Tile → ℕ → ℕ → ℕ
slots_of tile i = slot_in tile.first tile.rest i

-- what stands there
unfoldable pub numbers_standing_at : Tile → ℕ → List ℕ
numbers_standing_at tile i = standing_in (slots_of tile i)

-- of a queue of numbers, with room for so many, who stays in dimension d
abbrev pub stayers_by : Order → ℕ → ℕ → List ℕ → List ℕ
stayers_by order room d numbers = without numbers (place_by order room d (map ticket_of numbers))

-- of such a queue who leaves arrives across as this one, 0 where nobody does, and these slots hold who stays
pub record HasTicketLeft (order : Order) (room d : ℕ) (numbers : List ℕ) (leaver : ℕ) (slots : ℕ → ℕ) : Type 0 where
  pub going : ticket_in leaver ≡ going_by order room d (map ticket_of numbers)
  pub taken : leaver ≢ 0 → is_taken leaver ≡ true
  pub few : length (stayers_by order room d numbers) < room
  pub stay : AreSlots slots (stayers_by order room d numbers)

-- fifteen rows of 64 lanes
abbrev pub IsShaped : Tile → Type 0
IsShaped tile = AreSlotRows tile.first tile.rest

-- all slots are 0
abbrev pub IsQuiet : Tile → Type 0
IsQuiet tile = (i : ℕ) → i < 64 → AreSlots (slots_of tile i) []

-- each chip's slots hold what stands there, one behind the other; none holds anything in a tile that is not awake
pub record IsTile (tile : Tile) : Type 0 where
  pub shape : IsShaped tile
  pub queues : (i : ℕ) → i < 64 → AreSlots (slots_of tile i) (numbers_standing_at tile i)
  pub quiet : tile.awake ≡ false → IsQuiet tile

-- of each chip with room for so many the first slot holds who leaves in dimension d, and the slots behind it who stays,
-- of whom there are this many at most
pub record HasLeft (order : Order) (room d most : ℕ) (old new : Tile) : Type 0 where
  pub shape : IsShaped new
  pub gone : (i : ℕ) → i < 64 → HasTicketLeft order room d (numbers_standing_at old i)
      (slot_across d (slice_index new.first i)) (slot_behind new.rest i)
  pub few : (i : ℕ) → i < 64 → length (stayers_by order room d (numbers_standing_at old i)) ≤ most

-- at each chip the slots hold who stood in those behind the first, where these were this many at most, and behind them
-- who comes, by its place
pub record HasTakenIn (most : ℕ) (coming : ℕ → ℕ) (old new : Tile) : Type 0 where
  pub shape : IsShaped new
  pub came : (i : ℕ) (numbers : List ℕ) → i < 64 → length numbers ≤ most
      → AreSlots (slot_behind old.rest i) numbers → AreSlots (slots_of new i) (numbers ++ comers (coming i))
  pub quiet : new.awake ≡ false → IsQuiet new

-- this number is in one slot of one chip, and the others hold what they held
pub record IsPut (place slot number : ℕ) (old new : Tile) : Type 0 where
  pub shape : IsShaped new
  pub awake : new.awake ≡ true
  pub here : slots_of new place slot ≡ number
  pub same : (j : ℕ) → j ≢ slot → slots_of new place j ≡ slots_of old place j
  pub others : (i j : ℕ) → i ≢ place → slots_of new i j ≡ slots_of old i j

-- these stand at one chip now, and at the others who stood there
pub record HasChanged (place : ℕ) (numbers : List ℕ) (old new : Tile) : Type 0 where
  pub whole : IsTile new
  pub here : numbers_standing_at new place ≡ numbers
  pub others : (i : ℕ) → i < 64 → i ≢ place → numbers_standing_at new i ≡ numbers_standing_at old i
