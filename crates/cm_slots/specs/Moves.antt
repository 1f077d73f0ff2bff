-- Tickets that cross several dimensions at once. Ours.
use Rattle.std.specs.Prelude.{ℕ, ◌*◌, ◌%◌, ◌<◌, ◌≤◌, ◌≡◌, ◌≢◌, ◌==◌, List, length, map, bit_xor, Option, IfSome}
use Rattle.std.specs.Prelude.{if◌then◌else◌}
use Rattle.std.specs.List.{All}
use Rattle.std.specs.Global.{Vec}
use Rattle.cm_model.specs.Each.{tabulate}
use Rattle.cm_model.specs.Array.{nth_or_nil}
use Rattle.cm_slots.specs.declared.ticket.Ticket.{Ticket}
use Rattle.cm_slots.specs.declared.tile.Tile.{Tile}
use Rattle.cm_slots.specs.Slots.{leaver_at, comers}
use Rattle.cm_slots.specs.Tiles.{slots_of, numbers_standing_at, IsTile}
use Rattle.cm_slots.specs.Runs.{queues_in, AreKept}

-- a ticket that crosses all dimensions d of which bit d is set: these bits flip
abbrev pub ticket_over : ℕ → Ticket → Ticket
ticket_over dims t = record t { rel = bit_xor t.rel dims }

-- queues of which each crosses these dimensions whole, to the chip across all of them
abbrev pub queues_over : ℕ → List (List Ticket) → List (List Ticket)
queues_over dims queues = tabulate 0 (length queues) (λ c. map (ticket_over dims) (nth_or_nil queues (bit_xor c dims)))

-- these dimensions lead to chips that are there, and where there are any no more than one ticket stands at a chip
pub record AreMovable (dims : ℕ) (queues : List (List Ticket)) : Type 0 where
  pub inside : (c : ℕ) → c < length queues → bit_xor c dims < length queues
  pub few : dims ≢ 0 → All (λ ts. length ts ≤ 1) queues

-- the tiles of so many chips, whose tickets have crossed these dimensions and have not been moved
pub record AreQueues (noted chips : ℕ) (tiles : Vec Tile) (leaving : Vec (Option (List ℕ))) : Type 0 where
  pub kept : AreKept chips tiles leaving
  pub movable : AreMovable noted (queues_in chips tiles.items)

-- such tiles, whose tickets have been moved
pub record AreSettled (noted chips : ℕ) (old new : Vec Tile) (leaving : Vec (Option (List ℕ))) : Type 0 where
  pub kept : AreKept chips new leaving
  pub value : queues_in chips new.items ≡ queues_over noted (queues_in chips old.items)

-- what arrives at a slot across these dimensions, 0 where nothing does
abbrev pub slot_over : ℕ → ℕ → ℕ
slot_over dims slot = if slot == 0 then 0 else bit_xor slot (dims * 65536)

-- who stands in the first slots of a tile, or nothing, where nobody stands there
pub record AreFirst (tile : Tile) (first : Option (List ℕ)) : Type 0 where
  pub long : IfSome first (λ row. length row ≡ 64)
  pub each : (i : ℕ) → i < 64 → leaver_at first i ≡ slots_of tile i 0

-- at each chip of a tile stands who was in the first slot across these dimensions, and nobody else
pub record HasMoved (dims : ℕ) (first : Option (List ℕ)) (new : Tile) : Type 0 where
  pub whole : IsTile new
  pub each : (i : ℕ) → i < 64
      → numbers_standing_at new i ≡ comers (slot_over dims (leaver_at first (bit_xor i (dims % 64))))
