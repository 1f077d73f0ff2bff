-- Parts of a machine: some of its chips, one after another by number, with what stands at them. Ours.
use Rattle.std.specs.Prelude.{ℕ, ◌+◌, ◌-◌, ◌*◌, ◌^◌, ◌&&◌, Bool, List, [], slice_index_or, take, drop, nat_le, nat_lt}
use Rattle.cm_model.specs.declared.message.Message.{Message}
use Rattle.cm_model.specs.declared.message.Event.{Event}
use Rattle.cm_model.specs.Processor.{Processor}
use Rattle.cm_model.specs.Array.{Chips}
use Rattle.cm_model.specs.Wiring.{Routing}
use Rattle.cm_model.specs.Machine.{Machine}

-- so many elements of a list, from a place on
unfoldable pub sliced : {X : Type 0} → ℕ → ℕ → List X → List X
sliced first count xs = take count (drop first xs)

-- some chips of a machine, with their buffers and logs, its counter and how it routes
pub record Part : Type 0 where
  -- the number of the first chip, and how many there are
  pub first : ℕ
  pub count : ℕ
  -- by place, from the first on
  pub chips : Chips
  pub buffers : List (List Message)
  pub logs : List (List Event)
  pub clock : ℕ
  -- the machine's own, its wires by numbers of the whole cube
  pub routing : Routing

-- so many chips of a machine, from one on
unfoldable pub part : ℕ → ℕ → Machine → Part
part first count machine = record {
  first = first;
  count = count;
  chips = sliced first count machine.chips;
  buffers = sliced first count machine.buffers;
  logs = sliced first count machine.logs;
  clock = machine.clock;
  routing = machine.routing;
}

-- how many chips each of 2 ^ k blocks of a cube of n dimensions has
abbrev pub block_size : ℕ → ℕ → ℕ
block_size n k = 2 ^ (n - k)

-- block b of 2 ^ k: the chips whose upper k bits are b
abbrev pub block : ℕ → ℕ → ℕ → Machine → Part
block n k b machine = part (b * block_size n k) (block_size n k) machine

-- the chip of a number is one of the part
abbrev pub is_within : Part → ℕ → Bool
is_within s c = nat_le s.first c && nat_lt c (s.first + s.count)

-- what a part has of a chip, by the chip's number in the whole
abbrev pub list_in : {X : Type 0} → Part → List (List X) → ℕ → List X
list_in s lists c = slice_index_or lists (c - s.first) []

-- the processors of a chip of the part, by the chip's number in the whole
abbrev pub chip_in : Part → ℕ → List Processor
chip_in s c = list_in s s.chips c

-- the messages that stand at a chip of the part, from the front
abbrev pub buffer_in : Part → ℕ → List Message
buffer_in s c = list_in s s.buffers c

-- the events in the log of a chip of the part, the oldest first
abbrev pub log_in : Part → ℕ → List Event
log_in s c = list_in s s.logs c
