-- How a picture is shown: larger, and by the greatest number that it has. Ours.
use Rattle.std.specs.Prelude.{ℕ, ◌*◌, ◌/◌, ◌==◌, ◌&&◌, Bool, true, false, nat_lt, if◌then◌else◌, max, min, List, map}
use Rattle.std.specs.List.{flat_map, fold, range_with_len}
use Rattle.lab_figures.specs.declared.looks.Look.{Look}
use Rattle.lab_figures.specs.Formats.{picture_bytes}
use Rattle.lab_figures.specs.Pictures.{Dots, dot_at}

-- ---- by which greatest number

-- the greatest number that a dot has, or 0
abbrev pub greatest_dot : List ℕ → ℕ
greatest_dot dots = fold (λ most dot. max most dot) 0 dots

-- that of a picture whose greatest number is that of its dots: a picture of bits stays one, and no other becomes one
abbrev pub level_of : ℕ → List ℕ → ℕ
level_of greatest dots = if greatest == 1 then 1 else min (max 2 (greatest_dot dots)) greatest

-- the picture by the greatest number of its dots, or by its own
abbrev pub levelled : Bool → Dots → Dots
levelled true picture = record picture { greatest = level_of picture.greatest picture.dots }
levelled false picture = picture

-- ---- larger

-- the dots of a row of a picture that is so many times as large: each dot as many times
unfoldable pub wider_row : ℕ → Dots → ℕ → List ℕ
wider_row k picture y = map (λ x. dot_at picture (y / k) (x / k)) (range_with_len 0 (k * picture.width))

-- so many times as wide and as high
abbrev pub enlarged_by : ℕ → Dots → Dots
enlarged_by k picture = record {
  width = k * picture.width;
  height = k * picture.height;
  greatest = picture.greatest;
  dots = flat_map (wider_row k picture) (range_with_len 0 (k * picture.height));
}

-- the same, if no side has more than 65,535 dots then; else the picture stays as it is
abbrev pub enlarged : ℕ → Dots → Dots
enlarged k picture =
    if nat_lt (k * picture.width) 65536 && nat_lt (k * picture.height) 65536 then enlarged_by k picture else picture

-- ---- the whole

-- a picture as it is looked at; a scale of 0 counts as 1
abbrev pub look_bytes : Look → Dots → List ℕ
look_bytes look picture =
    picture_bytes look.format (enlarged (max 1 look.scale) (levelled look.is_by_dots picture))
