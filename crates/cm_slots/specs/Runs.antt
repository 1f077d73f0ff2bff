-- Tiles in a row: chip c stands at place c % 64 of tile c / 64. Ours.
use Rattle.std.specs.Prelude.{ℕ, ◌+◌, ◌/◌, ◌%◌, ◌^◌, ◌<◌, ◌≤◌, ◌≡◌, ◌≢◌, true, false, List, [], length, map, bit_xor}
use Rattle.std.specs.Prelude.{Option, None, IfSome, slice_index_or, vec_capacity}
use Rattle.std.specs.List.{All}
use Rattle.std.specs.Global.{Vec}
use Rattle.cm_model.specs.Each.{tabulate}
use Rattle.cm_slots.specs.declared.ticket.Ticket.{Ticket}
use Rattle.cm_slots.specs.declared.order.Order.{Order}
use Rattle.cm_slots.specs.declared.order.Order.TheVariants.{Arrival}
use Rattle.cm_slots.specs.declared.tile.Tile.{Tile}
use Rattle.cm_slots.specs.Tickets.{ticket_of, ticket_in}
use Rattle.cm_slots.specs.Slots.{is_taken, leaver_at}
use Rattle.cm_slots.specs.Choice.{staying_by, going_by, exchanged_by}
use Rattle.cm_slots.specs.Tiles.{slots_of, numbers_standing_at, IsShaped, IsTile}

-- what is read where there is no tile
abbrev pub no_tile : Tile
no_tile = record { first = []; rest = []; awake = false }

-- a tile by its number
abbrev pub tile_at : List Tile → ℕ → Tile
tile_at tiles t = slice_index_or tiles t no_tile

-- who leaves a tile, by its number
abbrev pub leavers_at : List (Option (List ℕ)) → ℕ → Option (List ℕ)
leavers_at leaving t = slice_index_or leaving t None

-- the tile across dimension d from a tile: it is the same tile where d is below 6
abbrev pub tile_across : ℕ → ℕ → ℕ
tile_across d t = bit_xor t (2 ^ d / 64)

-- the place across dimension d from a place: it is the same place where d is 6 or more
abbrev pub place_across : ℕ → ℕ → ℕ
place_across d i = bit_xor i (2 ^ d % 64)

-- the number of who leaves a chip; 0 where nobody does
abbrev pub number_leaving : List (Option (List ℕ)) → ℕ → ℕ
number_leaving leaving c = leaver_at (leavers_at leaving (c / 64)) (c % 64)

-- the ticket of who leaves a chip; none where nobody does
abbrev pub ticket_leaving_chip : List (Option (List ℕ)) → ℕ → Option Ticket
ticket_leaving_chip leaving c = ticket_in (number_leaving leaving c)

-- the tickets of the chip at a place of a tile, from the front
abbrev pub tickets_standing_at : Tile → ℕ → List Ticket
tickets_standing_at tile i = map ticket_of (numbers_standing_at tile i)

-- the tickets of each chip of a tile, with room for so many, have crossed dimension d, across which is this other tile
pub record HasCrossed (order : Order) (room d : ℕ) (here there new : Tile) : Type 0 where
  pub whole : IsTile new
  pub within : (i : ℕ) → i < 64 → length (numbers_standing_at new i) ≤ room
  pub each : (i : ℕ) → i < 64 → tickets_standing_at new i
      ≡ exchanged_by order room d (tickets_standing_at here i) (tickets_standing_at there (place_across d i))

-- who leaves each chip of a tile in dimension d is among these leavers, as a ticket arrives across, and who stays has
-- closed up
pub record HasDeparted (room d : ℕ) (old new : Tile) (leavers : Option (List ℕ)) : Type 0 where
  pub whole : IsTile new
  pub long : IfSome leavers (λ row. length row ≡ 64)
  pub going : (i : ℕ) → i < 64 → ticket_in (leaver_at leavers i) ≡ going_by Arrival room d (tickets_standing_at old i)
  pub taken : (i : ℕ) → i < 64 → leaver_at leavers i ≢ 0 → is_taken (leaver_at leavers i) ≡ true
  pub stay : (i : ℕ) → i < 64 → tickets_standing_at new i ≡ staying_by Arrival room d (tickets_standing_at old i)
  pub space : (i : ℕ) → i < 64 → length (numbers_standing_at new i) < room

-- the numbers that stand at a chip, from the front
abbrev pub numbers_at : List Tile → ℕ → List ℕ
numbers_at tiles c = numbers_standing_at (tile_at tiles (c / 64)) (c % 64)

-- the tickets that stand at a chip, from the front
abbrev pub tickets_of : List Tile → ℕ → List Ticket
tickets_of tiles c = map ticket_of (numbers_at tiles c)

-- no more stand at any place than this
abbrev pub AreWithin : ℕ → List Tile → Type 0
AreWithin most tiles = (t i : ℕ) → t < length tiles → i < 64 → length (numbers_standing_at (tile_at tiles t) i) ≤ most

-- who leaves each tile: nobody, or 64 lanes, each 0 or with a ticket
pub record AreLeavers (leaving : List (Option (List ℕ))) : Type 0 where
  pub long : All (λ leavers. IfSome leavers (λ row. length row ≡ 64)) leaving
  pub taken : (c : ℕ) → c / 64 < length leaving → number_leaving leaving c ≢ 0
      → is_taken (number_leaving leaving c) ≡ true

-- the tickets of each of so many chips, where they stand in the tiles
abbrev pub queues_in : ℕ → List Tile → List (List Ticket)
queues_in chips tiles = tabulate 0 chips (tickets_of tiles)

-- the tiles of so many chips, or none as long as nobody has stood anywhere, and as many leavers; behind the last chip
-- nobody stands
pub record AreTiles (chips : ℕ) (tiles : List Tile) (leaving : List (Option (List ℕ))) : Type 0 where
  pub few : chips ≤ 4096
  pub count : 0 < length tiles → length tiles ≡ (chips + 63) / 64
  pub rows : length leaving ≡ length tiles
  pub whole : All IsTile tiles
  pub past : (c : ℕ) → chips ≤ c → c / 64 < length tiles → tickets_of tiles c ≡ []

-- such tiles, with space for those of all chips, also where none are made yet
pub record AreKept (chips : ℕ) (tiles : Vec Tile) (leaving : Vec (Option (List ℕ))) : Type 0 where
  pub are : AreTiles chips tiles.items leaving.items
  pub space : (chips + 63) / 64 ≤ vec_capacity tiles
  pub rows_space : (chips + 63) / 64 ≤ vec_capacity leaving

-- so many tiles, all of whose slots are 0
pub record AreEmptyTiles (count : ℕ) (tiles : List Tile) : Type 0 where
  pub long : length tiles ≡ count
  pub shape : All IsShaped tiles
  pub blank : (t i j : ℕ) → t < count → slots_of (tile_at tiles t) i j ≡ 0
