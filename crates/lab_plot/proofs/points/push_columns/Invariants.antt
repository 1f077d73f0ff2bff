use Rattle.std.proofs.Common.{◌≡◌, ◌++◌}
use Rattle.std.specs.List.{flat_map, range_with_len}
use Rattle.lab_plot.specs.Points.{point_in}
use Rattle.lab_plot.proofs.points.push_columns.Given as goal

-- the points of so many columns behind the first
abbrev pub invariant-loop-k : goal.invariant-loop-k
invariant-loop-k l = l.points.items ≡ l.initial.points.items ++ flat_map (point_in l.line) (range_with_len 1 l.k)
