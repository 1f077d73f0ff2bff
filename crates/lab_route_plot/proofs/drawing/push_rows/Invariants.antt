use Rattle.std.proofs.Common.{◌≡◌, ◌++◌, take}
use Rattle.std.specs.List.{flat_map}
use Rattle.lab_route_plot.specs.Rows.{plan_seen}
use Rattle.lab_route_plot.specs.Drawing.{row_text}
use Rattle.lab_route_plot.proofs.drawing.push_rows.Given as goal

-- so many rows
abbrev pub invariant-loop-chip : goal.invariant-loop-chip
invariant-loop-chip l = l.text.items ≡ l.initial.text.items ++ flat_map (row_text (plan_seen l.grid)) (take l.chip-index l.grid.rows.items)
