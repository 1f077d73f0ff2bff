use Rattle.std.proofs.Common.{◌≡◌, take}
use Rattle.lab_route_plot.specs.Rows.{last_cycle}
use Rattle.lab_route_plot.proofs.rows.last_cycle.Given as goal

-- the last of so many legs
abbrev pub invariant-loop-leg : goal.invariant-loop-leg
invariant-loop-leg l = l.last ≡ last_cycle (take l.leg-index l.legs)
