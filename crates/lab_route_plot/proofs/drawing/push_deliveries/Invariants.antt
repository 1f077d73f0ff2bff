use Rattle.std.proofs.Common.{◌≡◌, ◌++◌, take}
use Rattle.std.specs.List.{flat_map}
use Rattle.lab_route_plot.specs.Rows.{plan_seen}
use Rattle.lab_route_plot.specs.Drawing.{delivery}
use Rattle.lab_route_plot.proofs.drawing.push_deliveries.Given as goal

-- so many legs
abbrev pub invariant-loop-leg : goal.invariant-loop-leg
invariant-loop-leg l = l.text.items ≡ l.initial.text.items ++ flat_map (delivery (plan_seen l.grid)) (take l.leg-index l.legs)
