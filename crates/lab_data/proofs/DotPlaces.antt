-- Dots of pictures, and the places they tell of.
use Rattle.std.proofs.Common.{◌≡◌, ℕ, suc, zero, ◌+◌, ◌*◌, ◌^◌, ◌<◌, ◌≤◌, ◌==◌, Bool, true, false}
use Rattle.std.proofs.Common.{Some, None, length, get_or, sym, ap, ◌∙◌, subst, arith, ⊎_elim, if◌then◌else◌}
use Rattle.std.proofs.lemmas.Bool.{cases_Bool, eqb-true}
use Rattle.std.proofs.lemmas.Nat.{mul-add-lt, div-mul-add, mod-mul-add}
use Rattle.std.specs.List.{All}
use Rattle.cm_bits.specs.Bit.{bit_number}
use Rattle.cm_bits.specs.declared.place.Place.{Place}
use Rattle.cm_model.specs.Each.{tabulate}
use Rattle.cm_model.specs.Place.{chip_columns, rows, columns, place_at}
use Rattle.cm_model.specs.Processor.{flag, field_value}
use Rattle.cm_model.specs.Array.{nth_or_nil, processor_of}
use Rattle.cm_model.specs.Machine.{Machine}
use Rattle.cm_model.specs.Keeping.{IsMachine}
use Rattle.cm_model.proofs.Each.{get_or-each_below}
use Rattle.cm_model.proofs.Torus.{chips_in_rows}
use Rattle.lab_figures.specs.Pictures.{Dots}
use Rattle.lab_data.specs.declared.order.Order.TheVariants.{Rows as by_rows}
use Rattle.lab_data.specs.declared.pictures.Shown.TheVariants.{Number}
use Rattle.lab_data.specs.Data.{processors, place_in, numbers_of, flags_of, machine_with_numbers}
use Rattle.lab_data.specs.Pictures.{chip_rows, buffered, greatest_number, machine_picture, bits_from, depth_of_greatest}
use Rattle.lab_data.specs.PictureLaws.{AreDotsOfPlaces}
use Rattle.lab_data.proofs.Orders.{grid_size}
use Rattle.lab_data.proofs.ReadingBack.{numbers_read_back}

-- of what a function of the place gives, row by row, that of a row and a column
dot-of_grid : (n : ℕ) (told : Place → ℕ) (y x : ℕ) → y < rows n → x < columns n
    → get_or (tabulate 0 (processors n) (λ i. told (place_in n by_rows i))) (y * columns n + x) 0
    ≡ told (place_at n y x)
dot-of_grid n told y x row column =
    let inside : y * columns n + x < processors n =
    subst (λ (k : ℕ). y * columns n + x < k) (grid_size n) (mul-add-lt y (columns n) x (rows n) row column) in
    get_or-each_below (processors n) (λ i. told (place_in n by_rows i)) (y * columns n + x) 0 inside
    ∙ (λ j. told (place_at n (div-mul-add y (columns n) x column j) (mod-mul-add y (columns n) x column j)))

pub dots_are_places : (n cap : ℕ) (machine : Machine) → AreDotsOfPlaces n cap machine
unfolding flags_of numbers_of buffered
dots_are_places n cap machine = record {
  flags = λ number y x row column.
      dot-of_grid n (λ place. bit_number (flag (processor_of machine.chips place) number)) y x row column;
  numbers = λ field y x row column.
      dot-of_grid n (λ place. field_value (processor_of machine.chips place) field.at field.len) y x row column;
  buffers = λ y x row column.
      get_or-each_below (2 ^ n) (λ c. length (nth_or_nil machine.buffers c)) (y * chip_columns n + x) 0
      (subst (λ (k : ℕ). y * chip_columns n + x < k) (sym (chips_in_rows n))
      (mul-add-lt y (chip_columns n) x (chip_rows n) row column));
}

-- the greatest number of as many bits as were found
bits_from-greatest : (greatest len left found : ℕ) → bits_from greatest len left ≡ Some found
    → greatest + 1 ≡ 2 ^ found
unfolding bits_from
bits_from-greatest greatest len zero found h = absurd (let wrong : None ≡ Some found = h in cc)
bits_from-greatest greatest len (suc more) found h =
    ⊎_elim
    (λ (e : (greatest + 1 == 2 ^ len) ≡ true).
    let here : Some len ≡ Some found =
    sym (ap (λ (b : Bool). if b then Some len else bits_from greatest (len + 1) more) e) ∙ h in
    let same : len ≡ found = cc in
    eqb-true (greatest + 1) (2 ^ len) e ∙ ap (λ (k : ℕ). 2 ^ k) same)
    (λ (e : (greatest + 1 == 2 ^ len) ≡ false).
    bits_from-greatest greatest (len + 1) more found
    (sym (ap (λ (b : Bool). if b then Some len else bits_from greatest (len + 1) more) e) ∙ h))
    (cases_Bool (greatest + 1 == 2 ^ len))

pub pictures_read_back : (n cap at len : ℕ) (picture : Dots) (machine : Machine)
    → IsMachine n cap machine → picture.width ≡ columns n → picture.height ≡ rows n
    → length picture.dots ≡ processors n → All (λ dot. dot ≤ picture.greatest) picture.dots
    → depth_of_greatest picture.greatest ≡ Some len → at + len ≤ 4096
    → machine_picture n cap (Number (record { at = at; len = len }))
    (machine_with_numbers n by_rows at len picture.dots machine) ≡ picture
pictures_read_back n cap at len picture machine whole width height count small bits within = λ j. record {
  width = sym width j;
  height = sym height j;
  greatest = greatest j;
  dots = numbers_read_back n cap by_rows at len picture.dots machine whole within count few j;
}
  where
    power : picture.greatest + 1 ≡ 2 ^ len
    power = bits_from-greatest picture.greatest 1 16 len bits

    greatest : greatest_number len ≡ picture.greatest
    greatest = omega (arith, power)

    few : All (λ dot. dot < 2 ^ len) picture.dots
    few = λ i d h. omega (arith, power, small i d h)
