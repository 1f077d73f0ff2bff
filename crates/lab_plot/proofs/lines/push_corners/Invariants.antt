use Rattle.std.proofs.Common.{◌≡◌, ◌++◌, take}
use Rattle.std.specs.List.{flat_map}
use Rattle.lab_plot.specs.Lines.{column_corner}
use Rattle.lab_plot.proofs.lines.push_corners.Given as goal

-- the corners of so many points
abbrev pub invariant-loop-point : goal.invariant-loop-point
invariant-loop-point l = l.text.items ≡ l.initial.text.items
    ++ flat_map (column_corner l.frame l.column) (take l.point-index l.points)
