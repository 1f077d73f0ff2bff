-- Pictures of machines: a dot for each processor of the grid, or for each chip. Ours.
use Rattle.std.specs.Prelude.{ℕ, suc, zero, ◌+◌, ◌-◌, ◌/◌, ◌^◌, ◌==◌, Bool, true, nat_lt, if◌then◌else◌}
use Rattle.std.specs.Prelude.{Option, Some, None, List, length}
use Rattle.cm_model.specs.Place.{chip_columns, rows, columns}
use Rattle.cm_model.specs.Array.{each_chip, nth_or_nil}
use Rattle.cm_model.specs.Machine.{Machine}
use Rattle.lab_figures.specs.Pictures.{Dots}
use Rattle.lab_data.specs.declared.order.Order.TheVariants.{Rows as by_rows}
use Rattle.lab_data.specs.declared.pictures.Shown.{Shown}
use Rattle.lab_data.specs.declared.pictures.Shown.TheVariants.{Flag, Number, Buffers}
use Rattle.lab_data.specs.Data.{numbers_of, flags_of}

-- its numbers have at most 16 bits
abbrev pub is_narrow : Shown → Bool
is_narrow (Flag number) = true
is_narrow (Number field) = nat_lt field.len 17
is_narrow Buffers = true

-- the greatest number of so many bits
abbrev pub greatest_number : ℕ → ℕ
greatest_number len = 2 ^ len - 1

-- rows of chips
abbrev pub chip_rows : ℕ → ℕ
chip_rows n = 2 ^ (n - n / 2)

-- how many messages stand at each chip
unfoldable pub buffered : ℕ → Machine → List ℕ
buffered n machine = each_chip n (λ c. length (nth_or_nil machine.buffers c))

-- the picture of the grid with these dots
abbrev pub grid_picture : ℕ → ℕ → List ℕ → Dots
grid_picture n greatest dots = record { width = columns n; height = rows n; greatest = greatest; dots = dots }

-- the picture of a machine on a cube of n dimensions whose routers have room for cap messages each
abbrev pub machine_picture : ℕ → ℕ → Shown → Machine → Dots
machine_picture n cap (Flag number) machine = grid_picture n 1 (flags_of n by_rows number machine.chips)
machine_picture n cap (Number field) machine =
    grid_picture n (greatest_number field.len) (numbers_of n by_rows field.at field.len machine.chips)
machine_picture n cap Buffers machine = record {
  width = chip_columns n;
  height = chip_rows n;
  greatest = cap;
  dots = buffered n machine;
}

-- the first of so many lengths from this one on of which this is the greatest number
unfoldable pub bits_from : ℕ → ℕ → ℕ → Option ℕ
bits_from greatest len zero = None
bits_from greatest len (suc more) =
    if greatest + 1 == 2 ^ len then Some len else bits_from greatest (len + 1) more

-- how many bits a number has of which this is the greatest, if it is one of 1, 3, 7 and so on to 65,535
abbrev pub depth_of_greatest : ℕ → Option ℕ
depth_of_greatest greatest = bits_from greatest 1 16
