use Rattle.std.proofs.Common.{◌≡◌, ◌++◌, take}
use Rattle.std.specs.List.{flat_map}
use Rattle.lab_load.specs.Tables.{dimension_header, dimension_lines}
use Rattle.lab_load.proofs.tables.dimension_table.Given as goal

-- the lines of so many loads
abbrev pub invariant-loop-figures : goal.invariant-loop-figures
invariant-loop-figures l =
    l.text.items ≡ dimension_header ++ flat_map (dimension_lines l.n) (take l.figures-index l.loads)
