use Rattle.std.proofs.Common.{◌≡◌, ◌++◌, take}
use Rattle.std.specs.List.{flat_map}
use Rattle.lab_load.specs.Tables.{crossing_header, crossing_line}
use Rattle.lab_load.proofs.tables.crossing_table.Given as goal

-- the lines of so many loads
abbrev pub invariant-loop-figures : goal.invariant-loop-figures
invariant-loop-figures l = l.text.items ≡ crossing_header ++ flat_map crossing_line (take l.figures-index l.loads)
