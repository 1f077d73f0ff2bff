-- The ticks of a panel and their numbers. Ours.
use Rattle.std.specs.Prelude.{ℕ, ◌+◌, ◌-◌, ◌*◌, nat_le, nat_lt, if◌then◌else◌, List, [], ◌++◌, codes}
use Rattle.std.specs.List.{flat_map, range_with_len}
use Rattle.lab_plot.specs.declared.panels.Frame.{Frame}
use Rattle.lab_plot.specs.Axes.{Axis, place_along}
use Rattle.lab_plot.specs.Pieces.{number_text, piece}

-- how far behind the beginning of an axis the k-th tick stands
abbrev pub tick_at : Axis → ℕ → ℕ → ℕ
tick_at axis length k = place_along axis (axis.low + k * axis.step) length

-- a line at this height, and how its number begins
unfoldable pub up_text : ℕ → List ℕ
up_text y =
    piece (codes "<path stroke='#ddd' stroke-width='8' d='M0 ") y
    ++ piece (codes "h5600'/><text text-anchor='end' x='-80' y='") (y + 50) ++ codes "'>"

-- the k-th tick upward, and its number
unfoldable pub up_tick : Axis → ℕ → List ℕ
up_tick axis k =
    if nat_le (k * axis.step) axis.span
    then up_text (2400 - tick_at axis 2400 k) ++ number_text (axis.low + k * axis.step) ++ codes "</text>\n"
    else []

-- a line at this place from the left, and how its number begins, which stands at another
unfoldable pub across_text : ℕ → ℕ → List ℕ
across_text x at =
    piece (codes "<path stroke='#ddd' stroke-width='8' d='M") x ++ piece (codes " 0v2400'/><text y='2600' x='") at
    ++ codes "'>"

-- the k-th tick to the right
unfoldable pub across_tick : Axis → ℕ → List ℕ
across_tick axis k =
    if nat_le (k * axis.step) axis.span
    then across_text (tick_at axis 5600 k) (tick_at axis 5600 k) ++ number_text (axis.low + k * axis.step)
    ++ codes "</text>\n"
    else []

-- where the middle of the petit cycle stands that begins at the k-th tick
abbrev pub middle_at : Axis → ℕ → ℕ
middle_at axis k = place_along axis (axis.low + k * axis.step + 500) 5600

-- the k-th tick to the right, where a petit cycle begins, and its number in its middle; none begins at the end
unfoldable pub cycle_tick : Axis → ℕ → List ℕ
cycle_tick axis k =
    if nat_lt (k * axis.step) axis.span
    then across_text (tick_at axis 5600 k) (middle_at axis k) ++ number_text (axis.low + k * axis.step)
    ++ codes "</text>\n"
    else []

-- all ticks: there are at most twelve
unfoldable pub ticks_text : Frame → List ℕ
ticks_text frame =
    flat_map (up_tick frame.up) (range_with_len 0 12) ++ flat_map (across_tick frame.across) (range_with_len 0 12)
