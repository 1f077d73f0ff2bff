-- Laws of data, each the contract of a function of its name. Ours.
use Rattle.std.specs.Prelude.{◌≡◌, ℕ, ◌+◌, ◌≤◌, ◌<◌, ◌^◌, List, length}
use Rattle.std.specs.List.{All}
use Rattle.cm_bits.specs.declared.place.Place.{Place}
use Rattle.cm_model.specs.Laws.{IsPlace}
use Rattle.cm_model.specs.Machine.{Machine}
use Rattle.cm_model.specs.Keeping.{IsMachine}
use Rattle.lab_data.specs.declared.order.Order.{Order}
use Rattle.lab_data.specs.Data.{processors, place_in, index_in, numbers_of, machine_with_numbers}

-- an index below the number of processors and a place of the machine are each the other's
pub record AreOrdered (n : ℕ) (order : Order) : Type 0 where
  pub places : (i : ℕ) → i < processors n → IsPlace n (place_in n order i)
  pub indices : (i : ℕ) → i < processors n → index_in n order (place_in n order i) ≡ i
  pub within : (place : Place) → IsPlace n place → index_in n order place < processors n
  pub back : (place : Place) → IsPlace n place → place_in n order (index_in n order place) ≡ place

-- so it is of every cube, chip by chip and row by row
abbrev pub EachProcessorComesOnce : Type 0
EachProcessorComesOnce = (n : ℕ) (order : Order) → AreOrdered n order

-- numbers that were put into a field of every processor are those that it has then
abbrev pub PutNumbersReadBack : Type 0
PutNumbersReadBack = (n cap : ℕ) (order : Order) (at len : ℕ) (numbers : List ℕ) (machine : Machine)
    → IsMachine n cap machine → at + len ≤ 4096 → length numbers ≡ processors n → All (λ x. x < 2 ^ len) numbers
    → numbers_of n order at len (machine_with_numbers n order at len numbers machine).chips ≡ numbers
