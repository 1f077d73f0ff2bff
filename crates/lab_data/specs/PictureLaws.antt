-- Laws of pictures, each the contract of a function of its name. Ours.
use Rattle.std.specs.Prelude.{◌≡◌, ℕ, ◌+◌, ◌*◌, ◌≤◌, ◌<◌, Some, length}
use Rattle.std.specs.List.{All}
use Rattle.cm_bits.specs.Bit.{bit_number}
use Rattle.cm_bits.specs.Span.{Span}
use Rattle.cm_model.specs.Place.{chip_columns, rows, columns, place_at}
use Rattle.cm_model.specs.Processor.{flag, field_value}
use Rattle.cm_model.specs.Array.{nth_or_nil, processor_of}
use Rattle.cm_model.specs.Machine.{Machine}
use Rattle.cm_model.specs.Keeping.{IsMachine}
use Rattle.lab_figures.specs.Pictures.{Dots, dot_at}
use Rattle.lab_data.specs.declared.order.Order.TheVariants.{Rows as by_rows}
use Rattle.lab_data.specs.declared.pictures.Shown.TheVariants.{Flag, Number, Buffers}
use Rattle.lab_data.specs.Data.{processors, machine_with_numbers}
use Rattle.lab_data.specs.Pictures.{chip_rows, machine_picture, depth_of_greatest}

-- the dot in row y and column x of a picture is that of the place in row y and column x of the grid, or of the chip
-- in row y and column x of chips
pub record AreDotsOfPlaces (n cap : ℕ) (machine : Machine) : Type 0 where
  pub flags : (number y x : ℕ) → y < rows n → x < columns n
      → dot_at (machine_picture n cap (Flag number) machine) y x
      ≡ bit_number (flag (processor_of machine.chips (place_at n y x)) number)
  pub numbers : (field : Span) (y x : ℕ) → y < rows n → x < columns n
      → dot_at (machine_picture n cap (Number field) machine) y x
      ≡ field_value (processor_of machine.chips (place_at n y x)) field.at field.len
  pub buffers : (y x : ℕ) → y < chip_rows n → x < chip_columns n
      → dot_at (machine_picture n cap Buffers machine) y x ≡ length (nth_or_nil machine.buffers (y * chip_columns n + x))

-- so it is of every machine
abbrev pub DotsArePlaces : Type 0
DotsArePlaces = (n cap : ℕ) (machine : Machine) → AreDotsOfPlaces n cap machine

-- the dots of a picture of the grid, put into a field that has as many bits as they, are shown as that picture
abbrev pub PicturesReadBack : Type 0
PicturesReadBack = (n cap at len : ℕ) (picture : Dots) (machine : Machine)
    → IsMachine n cap machine → picture.width ≡ columns n → picture.height ≡ rows n
    → length picture.dots ≡ processors n → All (λ dot. dot ≤ picture.greatest) picture.dots
    → depth_of_greatest picture.greatest ≡ Some len → at + len ≤ 4096
    → machine_picture n cap (Number (record { at = at; len = len }))
    (machine_with_numbers n by_rows at len picture.dots machine) ≡ picture
