-- What is counted of petit cycles, if it is asked for. Ours.
use Rattle.std.specs.Prelude.{ℕ, Bool, List, replicate, if◌then◌else◌}
use Rattle.cm_model.specs.Machine.{Machine}
use Rattle.lab_counts.specs.declared.counts.Counts.{Counts}
use Rattle.lab_counts.specs.declared.crossings.Crossings.{Crossings}
use Rattle.lab_counts.specs.Crossings.{no_crossings, crossings_through}
use Rattle.lab_counts.specs.Chips.{chips_through}

-- nothing was counted so far
abbrev pub nothing_counted : Bool → Counts
nothing_counted is_on = record { is_on = is_on; dims = replicate 12 no_crossings; quiet = 0 }

-- with the crossings of a petit cycle that begins with this machine
abbrev pub with_crossed : ℕ → ℕ → Machine → Counts → Counts
with_crossed n cap machine counts =
    if counts.is_on then record counts { dims = crossings_through n cap machine counts.dims n } else counts

-- crossings that are known by chip, with those of the petit cycle that begins with this machine, if it is counted
abbrev pub chips_crossed : Bool → ℕ → ℕ → Machine → List Crossings → List Crossings
chips_crossed is_on n cap machine chips = if is_on then chips_through n cap machine chips n else chips
