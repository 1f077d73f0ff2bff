use Rattle.std.proofs.Common.{◌≡◌, take, fold}
use Rattle.lab_plot.specs.Axes.{higher}
use Rattle.lab_plot.proofs.axes.highest.Given as goal

-- the greatest of so many points
abbrev pub invariant-loop-point : goal.invariant-loop-point
invariant-loop-point l = l.most ≡ fold (higher l.first l.count) 0 (take l.point-index l.points)
