use Rattle.std.proofs.Common.{◌≡◌, ◌++◌, take}
use Rattle.std.specs.List.{flat_map}
use Rattle.lab_load.specs.Tables.{loads_header, load_line}
use Rattle.lab_load.proofs.tables.table.Given as goal

-- the lines of so many loads
abbrev pub invariant-loop-figures : goal.invariant-loop-figures
invariant-loop-figures l = l.text.items ≡ loads_header ++ flat_map load_line (take l.figures-index l.loads)
