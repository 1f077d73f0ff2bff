-- A machine as it is kept: chips, messages and logs by number, a row of what is told, a counter, and working room by
-- number. Ours.
use Rattle.std.specs.Prelude.{◌≡◌, ℕ, ◌/◌, ◌<◌, ◌^◌, IsTrue, List, length, replicate, slice_index}
use Rattle.cm_model.specs.Machine.{Machine}
use Rattle.cm_model.specs.Keeping.{AreSizes, IsMachine}
use Rattle.cm_router.specs.Routes.{routing_of}
use Rattle.cm_router.specs.Logs.{log_room}
use Rattle.cm_router.specs.Rows.{with_row}
use Rattle.cm_petit.specs.Routers.{events_of, machine_from}
use Rattle.cm_array.specs.declared.chip_state.ChipState.{ChipState}

-- the machine that chips are: behind what is dealt out to its log a chip has told what the row tells of it
abbrev pub machine_of : ChipState → Machine
machine_of state =
    machine_from (routing_of state.routing) state.run state.crossing.buffers
    (with_row (events_of state.logs.items) state.row.items) state.clock

-- by chip, its share of so many events that a row takes
abbrev pub shares : ℕ → ℕ → List ℕ
shares chips room = replicate chips (room / chips)

-- a machine, and by chip its share of how many events more the row takes before it has to grow
pub record MachineView : Type 0 where
  pub machine : Machine
  pub log_rooms : List ℕ

-- what contracts see of the chips of a machine
abbrev pub view_of : ChipState → MachineView
view_of state = record {
  machine = machine_of state;
  log_rooms = shares (length state.logs.items) (log_room state.row);
}

-- some chip's log, or its share of a row, has to grow to take so many events more
pub record LacksLogRoom (count : ℕ) (log_rooms : List ℕ) : Type 0 where
  pub chip : ℕ
  pub is_chip : chip < length log_rooms
  pub few : slice_index log_rooms chip < count

-- sizes within bounds, those of a shape of d dimensions and room r, a place in each row of working room for each of so
-- many chips, and wires of this cube
pub record IsSized (n cap d r count : ℕ) (sent incoming : List ℕ) (cycles wires : ℕ) : Type 0 where
  pub sizes : AreSizes n cap
  pub dims : d ≡ n
  pub room : r ≡ cap
  pub sent_count : length sent ≡ count
  pub incoming_count : length incoming ≡ count
  pub clock : cycles < 2 ^ 63
  pub cube : wires ≡ n

-- so is the state of so many chips
abbrev pub AreSized : ℕ → ℕ → ℕ → ChipState → Type 0
AreSized n cap count state =
    IsSized n cap state.shape.dims state.shape.room count state.sent.items state.incoming.items state.clock
    state.routing.cuts.dims

-- a machine between two acts, when the messages of a chip may be kept anywhere
pub record AreUnderWay (n cap : ℕ) (state : ChipState) : Type 0 where
  pub sized : AreSized n cap (2 ^ n) state
  pub machine : IsMachine n cap (machine_of state)

-- and between two lists of acts, when they are gathered, so that they can be read
pub record AreParts (n cap : ℕ) (state : ChipState) : Type 0 where
  pub sized : AreSized n cap (2 ^ n) state
  pub gathered : IsTrue state.crossing.gathered
  pub machine : IsMachine n cap (machine_of state)
