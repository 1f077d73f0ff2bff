-- Where a way stands in its picture: a row for each chip, to the right petit cycles and in each its dimensions. Lengths
-- are tenths of a dot. Ours.
use Rattle.std.specs.Prelude.{ℕ, ◌+◌, ◌-◌, ◌*◌, ◌/◌, ◌^◌, ◌==◌, if◌then◌else◌, max, min, Option, Some, None}
use Rattle.std.specs.Prelude.{List, [], ◌∷◌, ◌++◌, length}
use Rattle.std.specs.List.{fold, list_any, position}
use Rattle.lab_plot.specs.Axes.{Axis, place_along, axis_of}
use Rattle.lab_route_plot.specs.declared.legs.Leg.{Leg}
use Rattle.lab_route_plot.specs.declared.rows.Grid.{Grid}

-- the chips of the rows, with this one behind them if it is new
abbrev pub rows_with : List ℕ → ℕ → List ℕ
rows_with rows chip = if list_any (λ row. row == chip) rows then rows else rows ++ chip ∷ []

-- the chips of all rows, downward in the order in which the message comes there
abbrev pub route_rows : List Leg → List ℕ
route_rows legs = fold (λ rows leg. rows_with rows leg.to) [] legs

-- how many dimensions a petit cycle has room for: up to the greatest that was crossed
abbrev pub most_dims : List Leg → ℕ
most_dims legs = fold (λ most leg. max most leg.end) 1 legs

-- the last petit cycle of these legs
abbrev pub last_cycle : List Leg → ℕ
last_cycle legs = fold (λ last leg. max last leg.cycle) 0 legs

-- a petit cycle in thousandths, as axes count; at most the greatest number of 64 bits
abbrev pub in_thousandths : ℕ → ℕ
in_thousandths c = min (1000 * c) (2 ^ 64 - 1)

-- the axis from this petit cycle to the last
abbrev pub across_axis : ℕ → List Leg → Axis
across_axis first legs = axis_of 1000 (in_thousandths first) (in_thousandths (last_cycle legs))

-- the plan of a picture: the chips of its rows, its dimensions and its axis
pub record Plan : Type 0 where
  pub rows : List ℕ
  pub dims : ℕ
  pub across : Axis

-- the plan that a grid has
abbrev pub plan_seen : Grid → Plan
plan_seen grid = record { rows = grid.rows.items; dims = grid.dims; across = grid.across }

-- the plan of a way that begins in this petit cycle
abbrev pub plan_of : ℕ → List Leg → Plan
plan_of first legs = record { rows = route_rows legs; dims = most_dims legs; across = across_axis first legs }

-- ---- places

-- from the left: a petit cycle, behind so many of its dimensions
abbrev pub route_x : Plan → ℕ → ℕ → ℕ
route_x plan c dims = place_along plan.across (1000 * c + 1000 * dims / max plan.dims 1) 5600

-- a row that was found, or the first row
abbrev pub or_first : Option ℕ → ℕ
or_first None = 0
or_first (Some row) = row

-- the row of a chip
abbrev pub row_of_chip : List ℕ → ℕ → ℕ
row_of_chip rows chip = or_first (position (λ row. row == chip) rows)

-- from above: the middle of a chip's row
abbrev pub route_y : List ℕ → ℕ → ℕ
route_y rows chip = min (2400 * (2 * row_of_chip rows chip + 1) / max (2 * length rows) 1) 2400
