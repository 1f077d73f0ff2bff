-- A machine as the code of its router has it: chips, buffers and logs by the chip's number. Ours.
use Rattle.std.specs.Prelude.{◌≡◌, ℕ, ◌≤◌, List, length, map}
use Rattle.std.specs.List.{All}
use Rattle.cm_model.specs.declared.message.Message.{Message}
use Rattle.cm_model.specs.declared.message.Event.{Event}
use Rattle.cm_model.specs.Array.{Chips}
use Rattle.cm_model.specs.Wiring.{Routing}
use Rattle.cm_model.specs.Machine.{Machine}
use Rattle.cm_router.specs.Logs.{Log}
use Rattle.cm_blocks.specs.Parts.{Part}

-- the events of each log
abbrev pub events_of : List Log → List (List Event)
events_of logs = map (λ log. log.items) logs

-- the machine that these are at a count of petit cycles, where messages go by this routing
abbrev pub machine_from : Routing → Chips → List (List Message) → List (List Event) → ℕ → Machine
machine_from routing chips buffers logs clock = record {
  chips = chips;
  buffers = buffers;
  logs = logs;
  clock = clock;
  routing = routing;
}

-- the same, of the events of these logs
abbrev pub machine_from_logs : Routing → Chips → List (List Message) → List Log → ℕ → Machine
machine_from_logs routing chips buffers logs clock = machine_from routing chips buffers (events_of logs) clock

-- the part of a machine of this routing that these are: so many chips, of which the first has this number
abbrev pub part_from : Routing → ℕ → ℕ → Chips → List (List Message) → List (List Event) → ℕ → Part
part_from routing first count chips buffers logs clock = record {
  first = first;
  count = count;
  chips = chips;
  buffers = buffers;
  logs = logs;
  clock = clock;
  routing = routing;
}

-- the same, of the events of these logs
abbrev pub part_from_logs : Routing → ℕ → ℕ → Chips → List (List Message) → List Log → ℕ → Part
part_from_logs routing first count chips buffers logs clock =
    part_from routing first count chips buffers (events_of logs) clock

-- so many chips, with at most cap messages for each
pub record HaveBuffers (count cap : ℕ) (chips : Chips) (buffers : List (List Message)) : Type 0 where
  pub chip_count : length chips ≡ count
  pub buffer_count : length buffers ≡ count
  pub within : All (λ ms. length ms ≤ cap) buffers

-- so many chips, with at most cap messages and a log for each
pub record AreRouters (count cap : ℕ) (chips : Chips) (buffers : List (List Message)) (logs : List Log) : Type 0 where
  pub chip_count : length chips ≡ count
  pub buffer_count : length buffers ≡ count
  pub log_count : length logs ≡ count
  pub within : All (λ ms. length ms ≤ cap) buffers
