use Rattle.std.proofs.Common.{◌≡◌, take}
use Rattle.lab_route_plot.specs.Rows.{most_dims}
use Rattle.lab_route_plot.proofs.rows.most_dims.Given as goal

-- the dimensions of so many legs
abbrev pub invariant-loop-leg : goal.invariant-loop-leg
invariant-loop-leg l = l.most ≡ most_dims (take l.leg-index l.legs)
