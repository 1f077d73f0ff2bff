use Rattle.std.proofs.Common.{◌≡◌, take}
use Rattle.lab_plot.specs.Axes.{leftmost}
use Rattle.lab_plot.proofs.axes.leftmost.Given as goal

-- the least of so many points
abbrev pub invariant-loop-point : goal.invariant-loop-point
invariant-loop-point l = l.least ≡ leftmost l.x (take l.point-index l.points)
