-- A machine under a load, petit cycle after petit cycle, and what it did. Ours.
use Rattle.std.specs.Prelude.{ℕ, suc, zero, ◌+◌, ◌-◌, List, [], replicate}
use Rattle.std.specs.Prelude.{◌++◌}
use Rattle.cm_bits.specs.Bit.{bit, bit_number}
use Rattle.cm_model.specs.declared.act.Act.TheVariants.{Cycle}
use Rattle.cm_model.specs.Processor.{RECV}
use Rattle.cm_model.specs.Array.{Chips, each_chip, chip_at}
use Rattle.cm_model.specs.Wiring.{Routing}
use Rattle.cm_model.specs.Machine.{Machine, blank_machine}
use Rattle.cm_model.specs.Buffers.{after_act}
use Rattle.cm_element.specs.Wide.{with_flag_plane}
use Rattle.lab_load.specs.declared.offers.Load.{Load}
use Rattle.lab_load.specs.declared.sources.Source.{Source}
use Rattle.lab_load.specs.Offers.{places, offers}
use Rattle.lab_load.specs.Asking.{no_source, Asking, asking_after_places}
use Rattle.lab_load.specs.Telling.{injected_count, latencies_in}

-- ---- one petit cycle

-- every processor has fetched what it received: RECV is 0
unfoldable pub all_ready : ℕ → Chips → Chips
all_ready n chips = each_chip n (λ c. with_flag_plane (chip_at chips c) RECV (bit 0))

-- what stands between two petit cycles: the machine, whose logs tell of the last one alone, what its processors have
-- offered, and what was told so far
pub record Loaded : Type 0 where
  pub machine : Machine
  -- by place
  pub sources : List Source
  pub deepest : ℕ
  pub taken : ℕ
  pub latencies : List ℕ

-- before a petit cycle: its processors have offered and asked
abbrev pub asking_of : Load → Loaded → Asking
asking_of load loaded =
    asking_after_places load loaded.machine.clock
    (record { chips = loaded.machine.chips; sources = loaded.sources; deepest = loaded.deepest })
    (places load.dims)

-- the machine with the chips whose processors have asked, and with empty logs
abbrev pub machine_asked : ℕ → Machine → Chips → Machine
machine_asked n machine chips = record machine { chips = chips; logs = each_chip n (λ c. []) }

-- after it, where it left this machine
abbrev pub load_after : ℕ → Loaded → Asking → Machine → Loaded
load_after n loaded asking after = record {
  machine = record after { chips = all_ready n after.chips };
  sources = asking.sources;
  deepest = asking.deepest;
  taken = loaded.taken + injected_count after.logs;
  latencies = loaded.latencies ++ latencies_in loaded.machine.clock after.logs;
}

-- what stands after the petit cycle of processors that have asked, with room for cap messages in each router
abbrev pub cycled : ℕ → ℕ → Loaded → Asking → Loaded
cycled n cap loaded asking =
    load_after n loaded asking (after_act n cap (machine_asked n loaded.machine asking.chips) Cycle)

-- one petit cycle on, on the cube of the load, whose routers have room for cap messages each
unfoldable pub after_one : ℕ → Load → Loaded → Loaded
after_one cap load loaded = cycled load.dims cap loaded (asking_of load loaded)

-- ---- so many petit cycles

-- a blank machine of a cube of n dimensions, with this routing: nothing was offered
unfoldable pub unloaded : ℕ → Routing → Loaded
unloaded n routing = record {
  machine = record (blank_machine n) { routing = routing };
  sources = replicate (places n) no_source;
  deepest = 0;
  taken = 0;
  latencies = [];
}

-- after so many petit cycles
unfoldable pub after_cycles : ℕ → Load → Loaded → ℕ → Loaded
after_cycles cap load loaded zero = loaded
after_cycles cap load loaded (suc cycles) = after_one cap load (after_cycles cap load loaded cycles)

-- the same, of which nothing was told so far
abbrev pub untold : Loaded → Loaded
untold loaded = record loaded { deepest = 0; taken = 0; latencies = [] }

-- a blank machine after so many petit cycles, of which those behind the first so many are told of
abbrev pub loaded_for : ℕ → Load → Routing → ℕ → ℕ → Loaded
loaded_for cap load routing skip cycles =
    after_cycles cap load (untold (after_cycles cap load (unloaded load.dims routing) skip)) (cycles - skip)

-- how many messages the first so many places offer in petit cycle t
unfoldable pub offered_by : Load → ℕ → ℕ → ℕ
offered_by load t zero = 0
offered_by load t (suc count) = offered_by load t count + bit_number (offers load t count)

-- how many are offered in the first so many petit cycles
unfoldable pub offered_in : Load → ℕ → ℕ
offered_in load zero = 0
offered_in load (suc t) = offered_in load t + offered_by load t (places load.dims)
