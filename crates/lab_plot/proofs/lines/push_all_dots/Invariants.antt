use Rattle.std.proofs.Common.{◌≡◌, ◌++◌, take}
use Rattle.std.specs.List.{flat_map}
use Rattle.lab_plot.specs.Lines.{dot}
use Rattle.lab_plot.proofs.lines.push_all_dots.Given as goal

-- the dots of so many points
abbrev pub invariant-loop-point : goal.invariant-loop-point
invariant-loop-point l = l.text.items ≡ l.initial.text.items
    ++ flat_map (dot l.frame l.column l.k) (take l.point-index l.points)
