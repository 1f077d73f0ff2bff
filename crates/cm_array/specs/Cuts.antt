-- Parts that are cut out of a machine, as they are kept, and the machine that parts are one after another. Ours.
use Rattle.std.specs.Prelude.{◌≡◌, ℕ, ◌+◌, ◌<◌, ◌≤◌, ◌^◌, Bool, IsTrue, List, [], ◌∷◌, length}
use Rattle.std.specs.List.{All, flat_map}
use Rattle.cm_model.specs.Array.{nth_or_nil}
use Rattle.cm_model.specs.Wiring.{Routing, plain_routing}
use Rattle.cm_model.specs.Machine.{Machine}
use Rattle.cm_model.specs.Keeping.{IsMachine}
use Rattle.cm_blocks.specs.Parts.{Part, sliced}
use Rattle.cm_petit.specs.Routers.{events_of, part_from_logs}
use Rattle.cm_array.specs.declared.chip_state.ChipState.{ChipState}
use Rattle.cm_array.specs.Parts.{machine_of, AreSized}
use Rattle.cm_router.specs.Logs.{log_rooms_of}
use Rattle.cm_router.specs.Routes.{routing_of}

-- what contracts see of a part
pub record PartView : Type 0 where
  -- the dimensions of the cube that its chips are of, and how many messages a router has room for
  pub dims : ℕ
  pub room : ℕ
  pub part : Part
  -- by place, how many events more a chip's log takes before it has to grow
  pub log_rooms : List ℕ
  -- whether its messages stand so that they can be read
  pub gathered : Bool

-- that of a part that begins at chip `first`
abbrev pub part_view : ℕ → ChipState → PartView
part_view first state = record {
  dims = state.shape.dims;
  room = state.shape.room;
  part = part_from_logs (routing_of state.routing) first (length state.run) state.run state.crossing.buffers state.logs.items
      state.clock;
  log_rooms = log_rooms_of state.logs.items;
  gathered = state.crossing.gathered;
}

-- some chips of a cube of n dimensions, with a buffer, a log and working room for each
pub record IsPartView (n cap first : ℕ) (state : ChipState) : Type 0 where
  pub sized : AreSized n cap (length state.run) state
  pub there : first + length state.run ≤ 2 ^ n
  pub buffer_count : length state.crossing.buffers ≡ length state.run
  pub log_count : length state.logs.items ≡ length state.run
  pub within : All (λ ms. length ms ≤ cap) state.crossing.buffers

-- so is a part, of the cube of its shape
abbrev pub IsPart : ℕ → ChipState → Type 0
IsPart first state = IsPartView state.shape.dims state.shape.room first state

-- ---- cutting

-- room for so many chips of a machine of n dimensions and room cap, whatever stands there
pub record IsRoomFor (n cap count : ℕ) (state : ChipState) : Type 0 where
  pub dims : state.shape.dims ≡ n
  pub room : state.shape.room ≡ cap
  pub chips : length state.run ≡ count
  pub logs : length state.logs.items ≡ count
  pub sent : length state.sent.items ≡ count
  pub incoming : length state.incoming.items ≡ count
  pub buffers : length state.crossing.buffers ≡ count
  pub cube : state.routing.cuts.dims ≡ n

-- the state of so many chips of a whole machine, from the first on
pub record IsCut (first count : ℕ) (whole state : ChipState) : Type 0 where
  pub dims : state.shape.dims ≡ whole.shape.dims
  pub room : state.shape.room ≡ whole.shape.room
  pub chips : state.run ≡ sliced first count whole.run
  pub buffers : state.crossing.buffers ≡ sliced first count whole.crossing.buffers
  pub gathered : IsTrue state.crossing.gathered
  pub logs : events_of state.logs.items ≡ sliced first count (machine_of whole).logs
  pub sent : length state.sent.items ≡ count
  pub incoming : length state.incoming.items ≡ count
  pub clock : state.clock ≡ whole.clock
  pub cube : state.routing.cuts.dims ≡ whole.shape.dims
  pub routing : routing_of state.routing ≡ routing_of whole.routing

-- ---- parts one after another

-- the counter of the first of them
abbrev pub first_clock : List Part → ℕ
first_clock [] = 0
first_clock (s ∷ rest) = s.clock

-- and how it routes
abbrev pub first_routing : List Part → Routing
first_routing [] = plain_routing
first_routing (s ∷ rest) = s.routing

-- the machine that they are, in their order
abbrev pub joined : List Part → Machine
joined parts = record {
  chips = flat_map (λ s. s.chips) parts;
  buffers = flat_map (λ s. s.buffers) parts;
  logs = flat_map (λ s. s.logs) parts;
  clock = first_clock parts;
  routing = first_routing parts;
}

-- one counter stands in all of them
abbrev pub AreOfOneClock : List Part → Type 0
AreOfOneClock parts = All (λ s. s.clock ≡ first_clock parts) parts

-- and all route alike
abbrev pub AreOfOneRouting : List Part → Type 0
AreOfOneRouting parts = All (λ s. s.routing ≡ first_routing parts) parts

-- they are a whole machine
pub record AreWhole (n cap : ℕ) (parts : List Part) : Type 0 where
  pub machine : IsMachine n cap (joined parts)
  pub clock : AreOfOneClock parts
  pub routing : AreOfOneRouting parts

-- ---- one list laid into another

-- from a place on a list reads as the piece, and else as before
pub record IsLaid {X : Type 0} (at : ℕ) (piece old new : List (List X)) : Type 0 where
  pub count : length new ≡ length old
  pub laid : (i : ℕ) → i < length piece → nth_or_nil new (at + i) ≡ nth_or_nil piece i
  pub below : (i : ℕ) → i < at → nth_or_nil new i ≡ nth_or_nil old i
  pub above : (i : ℕ) → at + length piece ≤ i → nth_or_nil new i ≡ nth_or_nil old i
