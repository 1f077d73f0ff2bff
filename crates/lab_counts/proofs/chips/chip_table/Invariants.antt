use Rattle.std.proofs.Common.{◌≡◌, ◌++◌, take}
use Rattle.std.specs.List.{flat_map}
use Rattle.lab_counts.specs.Tables.{chip_header, chip_lines}
use Rattle.lab_counts.proofs.chips.chip_table.Given as goal

-- the lines of so many loads
abbrev pub invariant-loop-load : goal.invariant-loop-load
invariant-loop-load l = l.text.items ≡ chip_header ++ flat_map chip_lines (take l.load-index l.loads)
