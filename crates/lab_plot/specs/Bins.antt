-- How many messages took how long: bins of one round width, at most a hundred of them. Ours.
use Rattle.std.specs.Prelude.{ℕ, ◌-◌, ◌*◌, ◌/◌, ◌^◌, ◌==◌, Bool, nat_le, if◌then◌else◌, max, min, List, [], ◌∷◌}
use Rattle.std.specs.List.{count_by, flat_map, range_with_len}
use Rattle.lab_plot.specs.declared.points.Point.{Point}
use Rattle.lab_plot.specs.Axes.{rightmost, tick_step}

-- the width of a bin, where the slowest took so long: no less than one petit cycle
abbrev pub bin_width : ℕ → ℕ
bin_width most = max 1000 (tick_step 1000 most / 10)

-- a message took no less than so many bins and less than one more
abbrev pub is_in_bin : ℕ → ℕ → Point → Bool
is_in_bin width k point = point.x / width == k

-- how many did; in thousandths
abbrev pub bin_count : List Point → ℕ → ℕ → ℕ
bin_count points width k = min (1000 * count_by (is_in_bin width k) points) (2 ^ 64 - 1)

-- the point of a bin, if the slowest message is not before it
abbrev pub bin : List Point → ℕ → ℕ → ℕ → List Point
bin points most width k =
    if nat_le (k * width) most
    then record { column = 1; x = k * width; y = bin_count points width k } ∷ [] else []

-- so many bins
unfoldable pub bins_to : List Point → ℕ → ℕ → ℕ → List Point
bins_to points most width count = flat_map (bin points most width) (range_with_len 0 count)

-- all bins
unfoldable pub bins : List Point → List Point
bins points = bins_to points (rightmost 0 points) (bin_width (rightmost 0 points)) 100
