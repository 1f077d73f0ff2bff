use Rattle.std.proofs.Common.{◌≡◌, take}
use Rattle.lab_plot.specs.Axes.{rightmost}
use Rattle.lab_plot.proofs.axes.rightmost.Given as goal

-- the greatest of so many points
abbrev pub invariant-loop-point : goal.invariant-loop-point
invariant-loop-point l = l.most ≡ rightmost l.x (take l.point-index l.points)
