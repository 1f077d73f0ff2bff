-- A machine as contracts see it, and a run of acts: the order of a run is ours.
use Rattle.std.specs.Prelude.{ℕ, ◌+◌, ◌^◌, List, [], ◌∷◌, take}
use Rattle.std.specs.List.{flat_map, range_with_len}
use Rattle.cm_model.specs.declared.act.Act.{Act}
use Rattle.cm_model.specs.declared.message.Message.{Message}
use Rattle.cm_model.specs.declared.message.Event.{Event}
use Rattle.cm_model.specs.Chip.{blank_chip}
use Rattle.cm_model.specs.Array.{Chips, each_chip, nth_or_nil}
use Rattle.cm_model.specs.Wiring.{Routing, plain_routing}
use Rattle.cm_model.specs.Router.{Standing}
use Rattle.cm_model.specs.Order.{buffer}
use Rattle.cm_model.specs.Steps.{all_steps}
use Rattle.cm_model.specs.Cycle.{State, state_after_all}

-- what a machine keeps from one act to the next
pub record Machine : Type 0 where
  -- by number
  pub chips : Chips
  -- by chip, the messages that stand there, from the front
  pub buffers : List (List Message)
  -- by chip, its events since the machine was made
  pub logs : List (List Event)
  -- petit cycles so far
  pub clock : ℕ
  -- how its messages go: no act changes it
  pub routing : Routing

-- the machine of a cube of n dimensions, all bits and flags 0, no wire cut
unfoldable pub blank_machine : ℕ → Machine
blank_machine n = record {
  chips = each_chip n (λ c. blank_chip);
  buffers = each_chip n (λ c. []);
  logs = each_chip n (λ c. []);
  clock = 0;
  routing = plain_routing;
}

-- the records of a chip that is handed over, from this place in its buffer on: since is the place
abbrev pub records_from : ℕ → ℕ → List Message → List Standing
records_from c i [] = []
records_from c i (m ∷ ms) =
    record { message = m; chip = c; since = record { cycle = 0; turn = i } } ∷ records_from c (i + 1) ms

-- a machine that is handed over, with the set of its standing messages
unfoldable pub opened : ℕ → Machine → State
opened n machine = record {
  chips = machine.chips;
  standing = flat_map (λ c. records_from c 0 (nth_or_nil machine.buffers c)) (range_with_len 0 (2 ^ n));
  logs = machine.logs;
  clock = machine.clock;
  cycle = 1;
  routing = machine.routing;
}

-- the machine of a state: a chip's buffer is its messages in order of since
unfoldable pub closed : ℕ → State → Machine
closed n state = record {
  chips = state.chips;
  buffers = each_chip n (λ c. buffer c state.standing);
  logs = state.logs;
  clock = state.clock;
  routing = state.routing;
}

-- the machine after so many steps of a run
abbrev pub machine_at : ℕ → ℕ → Machine → List Act → ℕ → Machine
machine_at n cap machine acts count =
    closed n (state_after_all n cap (opened n machine) (take count (all_steps n acts)))

-- the machine after a list of acts, one after another, on a cube of n dimensions whose routers have room
-- for cap messages each
unfoldable pub run_of : ℕ → ℕ → Machine → List Act → Machine
run_of n cap machine acts = closed n (state_after_all n cap (opened n machine) (all_steps n acts))

-- its logs
abbrev pub log_of : ℕ → ℕ → Machine → List Act → List (List Event)
log_of n cap machine acts = (run_of n cap machine acts).logs
