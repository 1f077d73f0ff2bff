-- Axes: from which number to which, and with a tick at which round numbers between. Ours.
use Rattle.std.specs.Prelude.{ℕ, zero, suc, ◌+◌, ◌-◌, ◌*◌, ◌/◌, ◌%◌, ◌==◌, ◌&&◌, Bool, nat_lt, nat_le, if◌then◌else◌, max, min}
use Rattle.std.specs.Prelude.{List}
use Rattle.std.specs.List.{fold}
use Rattle.lab_plot.specs.declared.points.Point.{Point}

-- an axis, in thousandths: the number at which it begins, the distance of two ticks, and how far it goes
pub record Axis : Type 0 where
  pub low : ℕ
  pub step : ℕ
  pub span : ℕ

-- ---- what there is to show

-- a column is one of so many from the first on
abbrev pub in_columns : ℕ → ℕ → ℕ → Bool
in_columns first count c = nat_le first c && nat_lt c (first + count)

-- the greatest number upward so far, of the points of these columns
abbrev pub higher : ℕ → ℕ → ℕ → Point → ℕ
higher first count g point = if in_columns first count point.column then max g point.y else g

-- the greatest number upward of all points of these columns, or 0
abbrev pub highest : ℕ → ℕ → List Point → ℕ
highest first count points = fold (higher first count) 0 points

-- the least x of these points, or the given x if it is less
abbrev pub leftmost : ℕ → List Point → ℕ
leftmost x points = fold (λ least point. min least point.x) x points

-- the greatest x of these points, or the given x if it is greater
abbrev pub rightmost : ℕ → List Point → ℕ
rightmost x points = fold (λ most point. max most point.x) x points

-- ---- round numbers

-- ten times as much, if that is not above a number
abbrev pub wider : ℕ → ℕ → ℕ
wider range power = if nat_le power (range / 10) then 10 * power else power

-- the greatest power of ten that is not above a number, or 1; of at most so many zeros
unfoldable pub power_in : ℕ → ℕ → ℕ
power_in range zero = 1
power_in range (suc zeros) = wider range (power_in range zeros)

-- a round number that goes four to ten times into a range, at which this is the first digit's power
abbrev pub round_step : ℕ → ℕ → ℕ
round_step range power =
    if nat_lt (range / 2) power then power / 5 else (if nat_lt (range / 5) power then power / 2 else power)

-- the distance of two ticks of an axis over this range, no less than one unit
abbrev pub tick_step : ℕ → ℕ → ℕ
tick_step unit range = max unit (round_step range (power_in range 19))

-- the next multiple of a step, some way on
abbrev pub whole_steps : ℕ → ℕ → ℕ
whole_steps step range =
    if range % step == 0 && nat_lt 0 range then range else range + step - range % step

-- an axis from the tick that is not above the least number to the tick that is not below the greatest
abbrev pub axis_by : ℕ → ℕ → ℕ → Axis
axis_by step least most = record {
  low = least - least % step;
  step = step;
  span = whole_steps step (most - (least - least % step));
}

-- the axis from the least number to the greatest, whose ticks are no less than one unit apart
unfoldable pub axis_of : ℕ → ℕ → ℕ → Axis
axis_of unit least most = axis_by (tick_step unit (most - least)) least most

-- ---- places

-- the place of a number along an axis that is drawn so long
abbrev pub place_along : Axis → ℕ → ℕ → ℕ
place_along axis number length = (number - axis.low) * length / axis.span
