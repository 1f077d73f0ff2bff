use Rattle.std.proofs.Common.{◌≡◌, take}
use Rattle.lab_route_plot.specs.Rows.{route_rows}
use Rattle.lab_route_plot.proofs.rows.rows_of.Given as goal

-- the rows of so many legs
abbrev pub invariant-loop-leg : goal.invariant-loop-leg
invariant-loop-leg l = l.rows.items ≡ route_rows (take l.leg-index l.legs)
