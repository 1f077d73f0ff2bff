-- Loads as they are asked for, and which there are. Ours.
use Rattle.std.specs.Prelude.{◌≡◌, ℕ, ◌==◌, ◌||◌, ◌&&◌, Bool, true, false, not, List, Option, Some, None, nat_le}
use Rattle.std.specs.Prelude.{nat_lt, if◌then◌else◌}
use Rattle.std.specs.List.{find}
use Rattle.cm_model.specs.Wiring.{Routing}
use Rattle.cm_image_format.specs.Cuts.{rule_of}
use Rattle.lab_counts.specs.declared.chips.ChipCrossings.{ChipCrossings}
use Rattle.lab_fresh.specs.declared.blanks.WireEnd.{WireEnd}
use Rattle.lab_fresh.specs.Fresh.{is_stray, fresh_routing}
use Rattle.lab_load.specs.declared.offers.Load.{Load}
use Rattle.lab_load.specs.declared.offers.Pattern.TheVariants.{Uniform}
use Rattle.lab_load.specs.declared.figures.Figures.{Figures}
use Rattle.lab_load.specs.declared.latencies.Latencies.{Latencies as Told}
use Rattle.lab_load.specs.declared.trials.Trial.{Trial}
use Rattle.lab_load.specs.declared.trials.LoadFault.{LoadFault}
use Rattle.lab_load.specs.declared.trials.LoadTable.{LoadTable}
use Rattle.lab_load.specs.declared.trials.LoadTable.TheVariants.{Plain, Crossings, Dimensions, Chips, Latencies}
use Rattle.lab_load.specs.declared.trials.LoadFault.TheVariants.{Dimension, Room, Wire, Rate, Cycles, Skip, Seeds, Rule, Background, Table}
use Rattle.lab_load.specs.Counted.{counts_for, chips_for}
use Rattle.lab_load.specs.Loaded.{loaded_for}
use Rattle.lab_load.specs.Figures.{AreFigures}
use Rattle.lab_load.specs.Latencies.{histogram}

-- the fault of an end that the cube has not, if there is one
abbrev pub end_fault : ℕ → Option WireEnd → Option LoadFault
end_fault n None = None
end_fault n (Some end) = Some (Wire n end.chip end.dim)

-- the fault of a rate that is too high, if there is one
abbrev pub rate_fault : Option ℕ → Option LoadFault
rate_fault None = None
rate_fault (Some rate) = Some (Rate rate)

-- the earlier fault
abbrev pub or_load_fault : Option LoadFault → Option LoadFault → Option LoadFault
or_load_fault None later = later
or_load_fault (Some fault) later = Some fault

-- the table of loads
abbrev pub is_plain : LoadTable → Bool
is_plain Plain = true
is_plain Crossings = false
is_plain Dimensions = false
is_plain Chips = false
is_plain Latencies = false

-- the first fault of the petit cycles, those that are left out, the seeds, the rule, the background, the table
abbrev pub cycles_fault : Trial → Option LoadFault
cycles_fault trial =
    if trial.cycles == 0 || nat_lt 1000000 trial.cycles then Some (Cycles trial.cycles)
    else if nat_le trial.cycles trial.skip then Some (Skip trial.skip trial.cycles)
    else if trial.seeds == 0 || nat_lt 1000 trial.seeds then Some (Seeds trial.seeds)
    else if nat_lt 1 trial.rule then Some (Rule trial.rule)
    else if nat_lt 100 trial.background then Some (Background trial.background)
    else if nat_lt 1 trial.seeds && not (is_plain trial.table) then Some (Table trial.seeds) else None

-- the first fault: of the dimension, the room, the ends of cut wires and the rates in their order, the petit cycles,
-- those that are left out, the seeds, the rule, the background, the table
abbrev pub trial_fault : Trial → List WireEnd → List ℕ → Option LoadFault
trial_fault trial cuts rates =
    if nat_lt 12 trial.n then Some (Dimension trial.n)
    else if trial.room == 0 || nat_lt 15 trial.room then Some (Room trial.room)
    else or_load_fault (end_fault trial.n (find (is_stray trial.n) cuts))
    (or_load_fault (rate_fault (find (nat_lt 1600) rates)) (cycles_fault trial))

-- worked: a trial with these numbers
abbrev pub trial_with : ℕ → ℕ → ℕ → ℕ → ℕ → ℕ → ℕ → LoadTable → Trial
trial_with n room cycles skip seeds rule background table = record {
  n = n;
  room = room;
  rule = rule;
  pattern = Uniform;
  background = background;
  until = 0;
  seed = 1;
  cycles = cycles;
  skip = skip;
  seeds = seeds;
  table = table;
}

-- the load of a trial at a rate, with these targets
pub record IsLoadOf (trial : Trial) (targets : List ℕ) (rate : ℕ) (load : Load) : Type 0 where
  pub dims : load.dims ≡ trial.n
  pub pattern : load.pattern ≡ trial.pattern
  pub background : load.background ≡ trial.background
  pub rate_is : load.rate ≡ rate
  pub until : load.until ≡ trial.until
  pub seed : load.seed ≡ trial.seed
  pub targets_are : load.targets.items ≡ targets

-- a table that tells what is counted beside
abbrev pub is_counted : LoadTable → Bool
is_counted Plain = false
is_counted Crossings = true
is_counted Dimensions = true
is_counted Chips = true
is_counted Latencies = false

-- how the machine of a trial routes, of which the wires with these ends are cut
abbrev pub trial_routing : Trial → List WireEnd → Routing
trial_routing trial cuts = fresh_routing cuts (rule_of trial.rule)

-- what a trial answers at a rate: the numbers of its load on a blank machine
pub record AreFiguresOf (trial : Trial) (targets : List ℕ) (cuts : List WireEnd) (rate : ℕ) (figures : Figures)
    : Type 0 where
  pub load : Load
  pub is : IsLoadOf trial targets rate load
  pub are : AreFigures load trial.skip trial.cycles
      (loaded_for trial.room load (trial_routing trial cuts) trial.skip trial.cycles)
      (counts_for (is_counted trial.table) trial.room load (trial_routing trial cuts) trial.skip trial.cycles) figures

-- what it tells of latencies at a rate: how many messages of its load took how long there
pub record AreLatenciesOf (trial : Trial) (targets : List ℕ) (cuts : List WireEnd) (rate : ℕ) (latencies : Told)
    : Type 0 where
  pub load : Load
  pub is : IsLoadOf trial targets rate load
  pub rate_is : latencies.rate ≡ rate
  pub are : latencies.counts.items
      ≡ histogram (loaded_for trial.room load (trial_routing trial cuts) trial.skip trial.cycles).latencies

-- what it tells of chips at a rate: what the messages of its load did at each
pub record AreChipsOf (trial : Trial) (targets : List ℕ) (cuts : List WireEnd) (rate : ℕ) (told : ChipCrossings)
    : Type 0 where
  pub load : Load
  pub is : IsLoadOf trial targets rate load
  pub rate_is : told.rate ≡ rate
  pub are : told.chips.items ≡ chips_for trial.room load (trial_routing trial cuts) trial.skip trial.cycles
