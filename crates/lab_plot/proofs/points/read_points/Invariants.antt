use Rattle.std.proofs.Common.{◌≡◌, ◌+◌, []}
use Rattle.cm_bits.specs.Text.{lines_left}
use Rattle.lab_plot.specs.Points.{points_after}
use Rattle.lab_plot.proofs.points.read_points.Given as goal

-- what is left gives what all of it gave at the start
abbrev pub invariant-loop-line : goal.invariant-loop-line
invariant-loop-line l = points_after l.kind l.columns (l.before + 1) l.points.items (lines_left l.line-iterator)
    ≡ points_after l.kind l.columns (l.first + 1) [] (lines_left l.fn.lines)
