-- Laws of a run at each of its steps, each the contract of a function of its name. Ours.
use Rattle.std.specs.Prelude.{◌≡◌, ℕ, ◌^◌, ◌<◌, List, length, take}
use Rattle.std.specs.List.{Contains}
use Rattle.cm_model.specs.declared.act.Act.{Act}
use Rattle.cm_model.specs.declared.message.Message.{Message}
use Rattle.cm_model.specs.declared.message.Event.TheVariants.{Delivered}
use Rattle.cm_model.specs.Array.{chip_at, nth_or_nil}
use Rattle.cm_model.specs.Chip.{processor_at}
use Rattle.cm_model.specs.Router.{standing_at}
use Rattle.cm_model.specs.Letters.{HasReceived}
use Rattle.cm_model.specs.Steps.{Step, IsStep, all_steps, phases, steps_in}
use Rattle.cm_model.specs.Cycle.{State, state_after_all}
use Rattle.cm_model.specs.Machine.{Machine, opened, run_of}
use Rattle.cm_model.specs.Buffers.{delivered_in, machine_after_delivery, after_step, after_steps}
use Rattle.cm_model.specs.Leaver.{SincesDiffer}
use Rattle.cm_model.specs.Keeping.{IsSound, IsMachine}

-- the state after so many steps of a run, with its set of standing messages
abbrev pub state_at : ℕ → ℕ → Machine → List Act → ℕ → State
state_at n cap machine acts count = state_after_all n cap (opened n machine) (take count (all_steps n acts))

-- at each step of a run, of every machine, no two records at a chip have one since
abbrev pub SincesStayApart : Type 0
SincesStayApart = (n cap : ℕ) (machine : Machine) (acts : List Act) (count c : ℕ) →
    SincesDiffer (standing_at c (state_at n cap machine acts count).standing)

-- a run is the fold of its phases, told by the buffers
abbrev pub RunsAreToldByPhases : Type 0
RunsAreToldByPhases = (n cap : ℕ) (machine : Machine) (acts : List Act) → length machine.buffers ≡ 2 ^ n →
    run_of n cap machine acts ≡ after_steps n cap machine (steps_in (phases n acts))

-- every machine is sound
abbrev pub MachinesAreSound : Type 0
MachinesAreSound = (n cap : ℕ) (machine : Machine) → IsMachine n cap machine → IsSound n cap machine

-- each step keeps a machine sound
abbrev pub StepsKeepSoundness : Type 0
StepsKeepSoundness = (n cap : ℕ) (machine : Machine) (step : Step) → IsStep n step → IsSound n cap machine
    → IsSound n cap (after_step n cap machine step)

-- no act changes how a machine routes: neither which wires are cut nor the rule
abbrev pub RoutingIsKept : Type 0
RoutingIsKept = (n cap : ℕ) (machine : Machine) (acts : List Act) →
    (run_of n cap machine acts).routing ≡ machine.routing

-- a message that stood at a chip before delivery was received there, as it was
pub record IsReceived (before after : Machine) (c : ℕ) (m : Message) : Type 0 where
  pub stood : Contains (nth_or_nil before.buffers c) m
  pub arrived : m.rel ≡ 0
  pub received : HasReceived m (processor_at (chip_at after.chips c) m.proc)
  pub told : Contains (nth_or_nil after.logs c) (Delivered c m)

-- each message that a sound machine delivers is received by the processor that it is for, unaltered
abbrev pub DeliveredAreReceived : Type 0
DeliveredAreReceived = (n cap : ℕ) (machine : Machine) (c : ℕ) (m : Message) → c < 2 ^ n → IsSound n cap machine
    → Contains (delivered_in machine c) m → IsReceived machine (machine_after_delivery n machine) c m
