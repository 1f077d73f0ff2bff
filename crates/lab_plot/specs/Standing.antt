-- What axes and panels keep. Ours.
use Rattle.std.specs.Prelude.{◌≡◌, ℕ, ◌+◌, ◌%◌, ◌<◌, ◌≤◌}
use Rattle.lab_plot.specs.declared.panels.Frame.{Frame}
use Rattle.lab_plot.specs.declared.points.Point.{Point}
use Rattle.lab_plot.specs.Axes.{Axis, place_along}
use Rattle.lab_plot.specs.Lines.{place_x, place_y}

-- an axis goes from a tick at one number or before it to a tick at another or behind it
pub record Joins (axis : Axis) (least most : ℕ) : Type 0 where
  pub begins : axis.low ≤ least
  pub begins_late : least < axis.low + axis.step
  pub ends : most ≤ axis.low + axis.span
  pub ends_soon : axis.low + axis.span ≤ most + axis.step
  pub goes : 0 < axis.span
  pub first_tick : axis.low % axis.step ≡ 0
  pub last_tick : axis.span % axis.step ≡ 0

-- a point stands on a panel, which is 5600 wide and 2400 high, and as far above its lower side as its number is along
-- the axis
pub record StandsOn (frame : Frame) (point : Point) : Type 0 where
  pub across : place_x frame point ≤ 5600
  pub up : place_y frame point + place_along frame.up point.y 2400 ≡ 2400
