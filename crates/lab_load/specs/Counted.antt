-- What is counted of a load, if it is asked for: crossings by dimension and by chip, and petit cycles behind which
-- nothing is left. Ours.
use Rattle.std.specs.Prelude.{ℕ, suc, zero, ◌+◌, ◌-◌, ◌^◌, ◌==◌, ◌&&◌, not, Bool, true, List, length, min}
use Rattle.std.specs.Prelude.{replicate, if◌then◌else◌}
use Rattle.std.specs.List.{list_all, list_any}
use Rattle.cm_model.specs.declared.message.Message.{Message}
use Rattle.cm_model.specs.Processor.{SEND}
use Rattle.cm_model.specs.Array.{Chips}
use Rattle.cm_model.specs.Wiring.{Routing}
use Rattle.cm_model.specs.Machine.{Machine}
use Rattle.cm_element.specs.Flags.{has_flag}
use Rattle.lab_counts.specs.declared.counts.Counts.{Counts}
use Rattle.lab_counts.specs.declared.crossings.Crossings.{Crossings}
use Rattle.lab_counts.specs.Counts.{nothing_counted, with_crossed, chips_crossed}
use Rattle.lab_counts.specs.Crossings.{no_crossings}
use Rattle.lab_load.specs.declared.offers.Load.{Load}
use Rattle.lab_load.specs.declared.sources.Source.{Source}
use Rattle.lab_load.specs.Loaded.{Loaded, asking_of, machine_asked, after_one, after_cycles, unloaded, untold}

-- ---- one petit cycle

-- the machine that it begins with: its processors have asked
abbrev pub asked_machine : Load → Loaded → Machine
asked_machine load loaded = machine_asked load.dims loaded.machine (asking_of load loaded).chips

-- nothing is left: no message stands in a router, no processor asks to send, and no offer waits
abbrev pub is_quiet : Chips → List (List Message) → List Source → Bool
is_quiet chips buffers sources =
    list_all (λ here. length here == 0) buffers
    && (not (list_any (has_flag SEND) chips) && list_all (λ source. source.waiting == 0) sources)

-- one more behind which nothing is left, if that is so; the count ends at the greatest number of 32 bits
abbrev pub with_quiet : Bool → Counts → Counts
with_quiet quiet counts =
    if counts.is_on && quiet then record counts { quiet = min (counts.quiet + 1) (2 ^ 32 - 1) } else counts

-- after one petit cycle
abbrev pub counts_after : ℕ → Load → Loaded → Counts → Counts
counts_after cap load loaded counts =
    with_quiet
    (is_quiet (after_one cap load loaded).machine.chips (after_one cap load loaded).machine.buffers
    (after_one cap load loaded).sources)
    (with_crossed load.dims cap (asked_machine load loaded) counts)

-- ---- so many petit cycles

-- after so many, from this on
unfoldable pub counts_after_cycles : ℕ → Load → Loaded → Counts → ℕ → Counts
counts_after_cycles cap load loaded counts zero = counts
counts_after_cycles cap load loaded counts (suc cycles) =
    counts_after cap load (after_cycles cap load loaded cycles) (counts_after_cycles cap load loaded counts cycles)

-- of a blank machine after so many petit cycles, those behind the first so many
abbrev pub counts_for : Bool → ℕ → Load → Routing → ℕ → ℕ → Counts
counts_for is_on cap load routing skip cycles =
    counts_after_cycles cap load (untold (after_cycles cap load (unloaded load.dims routing) skip)) (nothing_counted is_on)
    (cycles - skip)

-- ---- crossings by chip

-- those that were known before, and those of one petit cycle, if they are counted
abbrev pub chips_after_one : Bool → ℕ → Load → Loaded → List Crossings → List Crossings
chips_after_one is_on cap load loaded chips = chips_crossed is_on load.dims cap (asked_machine load loaded) chips

-- and those of so many, from this on
unfoldable pub chips_after_cycles : Bool → ℕ → Load → Loaded → List Crossings → ℕ → List Crossings
chips_after_cycles is_on cap load loaded chips zero = chips
chips_after_cycles is_on cap load loaded chips (suc cycles) =
    chips_after_one is_on cap load (after_cycles cap load loaded cycles)
    (chips_after_cycles is_on cap load loaded chips cycles)

-- of a blank machine after so many petit cycles, those behind the first so many, and those that were known before
abbrev pub chips_from : List Crossings → Bool → ℕ → Load → Routing → ℕ → ℕ → List Crossings
chips_from chips is_on cap load routing skip cycles =
    chips_after_cycles is_on cap load (untold (after_cycles cap load (unloaded load.dims routing) skip)) chips
    (cycles - skip)

-- those alone
abbrev pub chips_for : ℕ → Load → Routing → ℕ → ℕ → List Crossings
chips_for cap load routing skip cycles =
    chips_from (replicate (2 ^ load.dims) no_crossings) true cap load routing skip cycles
