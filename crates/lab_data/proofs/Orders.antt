-- In either order each processor of a machine comes once.
use Rattle.std.proofs.Common.{◌≡◌, ℕ, ◌+◌, ◌-◌, ◌*◌, ◌/◌, ◌%◌, ◌^◌, ◌<◌, sym, ap, ◌∙◌, subst, arith}
use Rattle.std.proofs.Math.Nat.{mod-lt, div-add-mod}
use Rattle.std.proofs.lemmas.Nat.{div_below, mul-add-lt, div-mul-add, mod-mul-add}
use Rattle.cm_bits.specs.declared.place.Place.{Place}
use Rattle.cm_model.specs.Place.{chip_columns, rows, columns, row_of, column_of, place_at}
use Rattle.cm_model.specs.Laws.{IsPlace}
use Rattle.cm_model.proofs.Torus.{columns_some, chips_in_rows, row_of-lt, column_of-lt, row_of-place_at}
use Rattle.cm_model.proofs.Torus.{column_of-place_at, place_at-own, place_at_is_place}
use Rattle.lab_data.specs.declared.order.Order.{Order}
use Rattle.lab_data.specs.declared.order.Order.TheVariants.{Chips as by_chips, Rows as by_rows}
use Rattle.lab_data.specs.Data.{processors, place_in, index_in}
use Rattle.lab_data.specs.DataLaws.{AreOrdered}

-- the grid has as many places as there are processors
pub grid_size : (n : ℕ) → columns n * rows n ≡ processors n
grid_size n =
    let split : 2 ^ n ≡ chip_columns n * 2 ^ (n - n / 2) = chips_in_rows n in
    let sixteen : 4 * chip_columns n * (4 * 2 ^ (n - n / 2)) ≡ 16 * (chip_columns n * 2 ^ (n - n / 2)) = omega arith in
    sixteen ∙ ap (λ (k : ℕ). 16 * k) (sym split)

-- the same, rows first
pub grid_rows : (n : ℕ) → processors n ≡ rows n * columns n
grid_rows n = sym (grid_size n) ∙ omega arith

-- the chips are so many rows of so many
pub chips_in_columns : (n : ℕ) → 2 ^ n ≡ 2 ^ (n - n / 2) * chip_columns n
chips_in_columns n = chips_in_rows n ∙ omega arith

-- the row in which the processor of an index stands
pub row-lt : (n i : ℕ) → i < processors n → i / columns n < rows n
row-lt n i h =
    let some : 0 < columns n = omega (arith, columns_some n) in
    let size : columns n * rows n ≡ processors n = grid_size n in
    div_below i (columns n) (rows n) some (omega (arith, size, h))

pub column-lt : (n i : ℕ) → i % columns n < columns n
column-lt n i = mod-lt i (let some : 0 < columns n = omega (arith, columns_some n) in some)

pub each_processor_comes_once : (n : ℕ) (order : Order) → AreOrdered n order
each_processor_comes_once n by_chips = record {
  places = λ i h. record { chip = omega (arith, h); proc = omega arith };
  indices = λ i h. omega arith;
  within = λ place there. omega (arith, there.chip, there.proc);
  back = λ place there. chips_back place there;
} where
  chips_back : (place : Place) → IsPlace n place → place_in n by_chips (index_in n by_chips place) ≡ place
  chips_back place there = λ j. record { chip = chip j; proc = proc j } where
    chip : (place.chip * 16 + place.proc) / 16 ≡ place.chip
    chip = omega (arith, there.proc)

    proc : (place.chip * 16 + place.proc) % 16 ≡ place.proc
    proc = omega (arith, there.proc)
each_processor_comes_once n by_rows = record {
  places = λ i h. place_at_is_place n (i / columns n) (i % columns n) (row-lt n i h) (column-lt n i);
  indices = λ i h. (λ j. row_of-place_at n (i / columns n) (i % columns n) (column-lt n i) j * columns n
      + column_of-place_at n (i / columns n) (i % columns n) (column-lt n i) j)
      ∙ omega (arith, div-add-mod i (columns n));
  within = λ place there.
      subst (λ (k : ℕ). row_of n place * columns n + column_of n place < k) (grid_size n)
      (mul-add-lt (row_of n place) (columns n) (column_of n place) (rows n) (row_of-lt n place there)
      (column_of-lt n place there.proc));
  back = λ place there.
      (λ j. place_at n (div-mul-add (row_of n place) (columns n) (column_of n place) (column_of-lt n place there.proc) j)
      (mod-mul-add (row_of n place) (columns n) (column_of n place) (column_of-lt n place there.proc) j))
      ∙ place_at-own n place there.proc;
}
