-- The torus of places: the rows and columns of a place, and that steps there and back end where they began.
use Rattle.std.proofs.Common.{◌≡◌, ℕ, ◌+◌, ◌-◌, ◌*◌, ◌/◌, ◌%◌, ◌^◌, ◌<◌, ◌≤◌, zero, suc, ◌⊎◌, inl, inr, ap, ◌∙◌}
use Rattle.std.proofs.Common.{sym, subst, arith}
use Rattle.std.proofs.Math.Nat.{mod-eq_of_lt, mod-lt, mod_self, add-mod_right}
use Rattle.std.proofs.lemmas.Nat.{pow_pos, pow-add, div_below, mul-add-lt, div-mul-add, mod-mul-add, shr_split}
use Rattle.std.proofs.lemmas.Bool.{cases_lt}
use Rattle.cm_bits.specs.declared.place.Place.{Place}
use Rattle.cm_bits.specs.declared.plane.Dir.{Dir}
use Rattle.cm_bits.specs.declared.plane.Dir.TheVariants.{North, East, West, South}
use Rattle.cm_model.specs.Place.{chip_columns, rows, columns, row_of, column_of, place_at, neighbour, opposite}
use Rattle.cm_model.specs.Laws.{IsPlace, NeighboursLeadBack}

-- ---- a ring of so many numbers

-- one step back from the first leads to the last
pub back-first : (w : ℕ) → 0 < w → (0 + w - 1) % w ≡ w - 1
back-first w some = ap (λ (n : ℕ). (n - 1) % w) (omega arith) ∙ mod-eq_of_lt (omega arith)

-- one step back from another leads to the one before
pub back-other : (x w : ℕ) → 0 < x → x < w → (x + w - 1) % w ≡ x - 1
back-other x w some h =
    ap (λ (n : ℕ). n % w) (let e : x + w - 1 ≡ x - 1 + w = omega arith in e) ∙ add-mod_right (x - 1) w
    ∙ mod-eq_of_lt (omega arith)

-- one step on from the last leads to the first
pub on-last : (w : ℕ) → 0 < w → (w - 1 + 1) % w ≡ 0
on-last w some = ap (λ (n : ℕ). n % w) (let e : w - 1 + 1 ≡ w = omega arith in e) ∙ mod_self w

-- one step on from another leads to the one after
pub on-other : (x w : ℕ) → x + 1 < w → (x + 1) % w ≡ x + 1
on-other x w h = mod-eq_of_lt h

-- a step back and one on
pub back_and_on : (x w : ℕ) → x < w → ((x + w - 1) % w + 1) % w ≡ x
back_and_on zero w h = ap (λ (n : ℕ). (n + 1) % w) (back-first w h) ∙ on-last w h
back_and_on (suc x) w h =
    ap (λ (n : ℕ). (n + 1) % w) (back-other (suc x) w (omega arith) h) ∙ on-other (suc x - 1) w (omega arith)
    ∙ omega arith

-- a step on and one back
pub on_and_back : (x w : ℕ) → x < w → ((x + 1) % w + w - 1) % w ≡ x
on_and_back x w h = by_last (cases_lt (x + 1) w) where
  by_last : (x + 1 < w) ⊎ (w ≤ x + 1) → ((x + 1) % w + w - 1) % w ≡ x
  by_last (inl inside) = ap (λ (n : ℕ). (n + w - 1) % w) (on-other x w inside)
      ∙ back-other (x + 1) w (omega arith) inside ∙ omega arith
  by_last (inr last) =
      let here : x ≡ w - 1 = omega arith in
      ap (λ (n : ℕ). (n + w - 1) % w) (ap (λ (n : ℕ). (n + 1) % w) here ∙ on-last w (omega arith))
      ∙ back-first w (omega arith) ∙ sym here

-- ---- a ring of so many fours

-- one step on within four
pub on_within : (a r w : ℕ) → a < w → r < 3 → (4 * a + r + 1) % (4 * w) ≡ 4 * a + (r + 1)
on_within a r w h k = mod-eq_of_lt (omega arith) ∙ omega arith

-- one step on from the last of four leads to the first of the next
pub on_over : (a w : ℕ) → a < w → (4 * a + 3 + 1) % (4 * w) ≡ 4 * ((a + 1) % w) + 0
on_over a w h = by_last (cases_lt (a + 1) w) where
  by_last : (a + 1 < w) ⊎ (w ≤ a + 1) → (4 * a + 3 + 1) % (4 * w) ≡ 4 * ((a + 1) % w) + 0
  by_last (inl inside) =
      let next : (a + 1) % w ≡ a + 1 = on-other a w inside in
      let here : (4 * a + 3 + 1) % (4 * w) ≡ 4 * a + 3 + 1 = mod-eq_of_lt (omega arith) in
      omega arith
  by_last (inr last) =
      let whole : w ≡ a + 1 = omega arith in
      let next : (a + 1) % w ≡ 0 = ap (λ (n : ℕ). n % w) (sym whole) ∙ mod_self w in
      let here : (4 * a + 3 + 1) % (4 * w) ≡ 0 =
      ap (λ (n : ℕ). n % (4 * w)) (let e : 4 * a + 3 + 1 ≡ 4 * w = omega arith in e) ∙ mod_self (4 * w) in
      omega arith

-- one step back within four
pub back_within : (a r w : ℕ) → a < w → 0 < r → r < 4 → (4 * a + r + 4 * w - 1) % (4 * w) ≡ 4 * a + (r - 1)
back_within a r w h some k =
    ap (λ (n : ℕ). n % (4 * w)) (let e : 4 * a + r + 4 * w - 1 ≡ 4 * a + (r - 1) + 4 * w = omega arith in e)
    ∙ add-mod_right (4 * a + (r - 1)) (4 * w) ∙ mod-eq_of_lt (omega arith)

-- one step back from the first of four leads to the last of the one before
pub back_over : (a w : ℕ) → a < w → (4 * a + 0 + 4 * w - 1) % (4 * w) ≡ 4 * ((a + w - 1) % w) + 3
back_over zero w h =
    let before : (0 + w - 1) % w ≡ w - 1 = back-first w h in
    let here : (4 * zero + 0 + 4 * w - 1) % (4 * w) ≡ 4 * w - 1 =
    ap (λ (n : ℕ). n % (4 * w)) (let e : 4 * zero + 0 + 4 * w - 1 ≡ 4 * w - 1 = omega arith in e)
    ∙ mod-eq_of_lt (omega arith) in
    omega arith
back_over (suc a) w h =
    let before : (suc a + w - 1) % w ≡ suc a - 1 = back-other (suc a) w (omega arith) h in
    let here : (4 * suc a + 0 + 4 * w - 1) % (4 * w) ≡ 4 * a + 3 =
    ap (λ (n : ℕ). n % (4 * w)) (let e : 4 * suc a + 0 + 4 * w - 1 ≡ 4 * a + 3 + 4 * w = omega arith in e)
    ∙ add-mod_right (4 * a + 3) (4 * w) ∙ mod-eq_of_lt (omega arith) in
    omega arith

-- ---- rows and columns

pub columns_some : (n : ℕ) → 0 < chip_columns n
columns_some n = pow_pos (n / 2)

-- the chips are so many rows of so many
pub chips_in_rows : (n : ℕ) → 2 ^ n ≡ chip_columns n * 2 ^ (n - n / 2)
chips_in_rows n = ap (λ (k : ℕ). 2 ^ k) (omega arith) ∙ pow-add 2 (n / 2) (n - n / 2)

-- the row of chips in which a chip stands
pub chip_row-lt : (n chip : ℕ) → chip < 2 ^ n → chip / chip_columns n < 2 ^ (n - n / 2)
chip_row-lt n chip h =
    div_below chip (chip_columns n) (2 ^ (n - n / 2)) (columns_some n)
    (subst (λ (k : ℕ). chip < k) (chips_in_rows n ∙ omega arith) h)

pub chip_column-lt : (n chip : ℕ) → chip % chip_columns n < chip_columns n
chip_column-lt n chip = mod-lt chip (columns_some n)

-- a chip is the one in its row and column
pub chip-own : (n chip : ℕ) → chip / chip_columns n * chip_columns n + chip % chip_columns n ≡ chip
chip-own n chip = shr_split chip (n / 2)

pub row_of-lt : (n : ℕ) (place : Place) → IsPlace n place → row_of n place < rows n
row_of-lt n place there =
    let row : place.chip / chip_columns n < 2 ^ (n - n / 2) = chip_row-lt n place.chip there.chip in
    let proc = there.proc in
    omega arith

pub column_of-lt : (n : ℕ) (place : Place) → place.proc < 16 → column_of n place < columns n
column_of-lt n place below =
    let column : place.chip % chip_columns n < chip_columns n = chip_column-lt n place.chip in
    omega arith

-- the place in a row and a column stands there
pub row_of-place_at : (n row column : ℕ) → column < columns n → row_of n (place_at n row column) ≡ row
row_of-place_at n row column h =
    ap (λ (k : ℕ). 4 * k + (4 * (row % 4) + column % 4) / 4)
    (div-mul-add (row / 4) (chip_columns n) (column / 4) (omega arith)) ∙ omega arith

pub column_of-place_at : (n row column : ℕ) → column < columns n → column_of n (place_at n row column) ≡ column
column_of-place_at n row column h =
    ap (λ (k : ℕ). 4 * k + (4 * (row % 4) + column % 4) % 4)
    (mod-mul-add (row / 4) (chip_columns n) (column / 4) (omega arith)) ∙ omega arith

-- a place is the one in its row and column
pub place_at-own : (n : ℕ) (place : Place) → place.proc < 16 → place_at n (row_of n place) (column_of n place) ≡ place
place_at-own n place below = λ i. record { chip = chip i; proc = proc i } where
  chip : (4 * (place.chip / chip_columns n) + place.proc / 4) / 4 * chip_columns n
      + (4 * (place.chip % chip_columns n) + place.proc % 4) / 4 ≡ place.chip
  chip =
      ap (λ (k : ℕ). k * chip_columns n + (4 * (place.chip % chip_columns n) + place.proc % 4) / 4) (omega arith)
      ∙ ap (λ (k : ℕ). place.chip / chip_columns n * chip_columns n + k) (omega arith)
      ∙ chip-own n place.chip

  proc : 4 * ((4 * (place.chip / chip_columns n) + place.proc / 4) % 4)
      + (4 * (place.chip % chip_columns n) + place.proc % 4) % 4 ≡ place.proc
  proc = omega arith

-- what stands in a row and a column of the machine is a place of it
pub place_at_is_place : (n row column : ℕ) → row < rows n → column < columns n → IsPlace n (place_at n row column)
place_at_is_place n row column h k = record {
  chip = subst (λ (m : ℕ). row / 4 * chip_columns n + column / 4 < m) (sym (chips_in_rows n))
      (mul-add-lt (row / 4) (chip_columns n) (column / 4) (2 ^ (n - n / 2)) (omega arith) (omega arith));
  proc = omega arith;
}

-- the place in a row and a column of a chip that stands in a row and a column of chips
pub place_at-split : (n a r b s : ℕ) → r < 4 → s < 4
    → place_at n (4 * a + r) (4 * b + s) ≡ record { chip = a * chip_columns n + b; proc = 4 * r + s }
place_at-split n a r b s h k = λ i. record { chip = chip i; proc = proc i } where
  chip : (4 * a + r) / 4 * chip_columns n + (4 * b + s) / 4 ≡ a * chip_columns n + b
  chip =
      ap (λ (m : ℕ). m * chip_columns n + (4 * b + s) / 4) (let e : (4 * a + r) / 4 ≡ a = omega arith in e)
      ∙ ap (λ (m : ℕ). a * chip_columns n + m) (let e : (4 * b + s) / 4 ≡ b = omega arith in e)

  proc : 4 * ((4 * a + r) % 4) + (4 * b + s) % 4 ≡ 4 * r + s
  proc = omega arith

-- ---- steps there and back

neighbour_is_place : (n : ℕ) (dir : Dir) (place : Place) → IsPlace n place → IsPlace n (neighbour n dir place)
unfolding neighbour
neighbour_is_place n North place there =
    let below = row_of-lt n place there in
    place_at_is_place n _ _ (mod-lt (row_of n place + rows n - 1) (omega arith)) (column_of-lt n place there.proc)
neighbour_is_place n South place there =
    let below = row_of-lt n place there in
    place_at_is_place n _ _ (mod-lt (row_of n place + 1) (omega arith)) (column_of-lt n place there.proc)
neighbour_is_place n West place there =
    let below = column_of-lt n place there.proc in
    place_at_is_place n _ _ (row_of-lt n place there) (mod-lt (column_of n place + columns n - 1) (omega arith))
neighbour_is_place n East place there =
    let below = column_of-lt n place there.proc in
    place_at_is_place n _ _ (row_of-lt n place there) (mod-lt (column_of n place + 1) (omega arith))

there_and_back : (n : ℕ) (dir : Dir) (place : Place) → IsPlace n place
    → neighbour n (opposite dir) (neighbour n dir place) ≡ place
unfolding neighbour
there_and_back n North place there =
    let column_below = column_of-lt n place there.proc in
    (λ i. place_at n ((row_of-place_at n ((row_of n place + rows n - 1) % rows n) (column_of n place) column_below i
    + 1) % rows n)
    (column_of-place_at n ((row_of n place + rows n - 1) % rows n) (column_of n place) column_below i))
    ∙ ap (λ (k : ℕ). place_at n k (column_of n place)) (back_and_on (row_of n place) (rows n) (row_of-lt n place there))
    ∙ place_at-own n place there.proc
there_and_back n South place there =
    let column_below = column_of-lt n place there.proc in
    (λ i. place_at n ((row_of-place_at n ((row_of n place + 1) % rows n) (column_of n place) column_below i + rows n
    - 1) % rows n)
    (column_of-place_at n ((row_of n place + 1) % rows n) (column_of n place) column_below i))
    ∙ ap (λ (k : ℕ). place_at n k (column_of n place)) (on_and_back (row_of n place) (rows n) (row_of-lt n place there))
    ∙ place_at-own n place there.proc
there_and_back n West place there =
    let below = column_of-lt n place there.proc in
    let moved : (column_of n place + columns n - 1) % columns n < columns n =
    mod-lt (column_of n place + columns n - 1) (omega arith) in
    (λ i. place_at n (row_of-place_at n (row_of n place) ((column_of n place + columns n - 1) % columns n) moved i)
    ((column_of-place_at n (row_of n place) ((column_of n place + columns n - 1) % columns n) moved i + 1) % columns n))
    ∙ ap (λ (k : ℕ). place_at n (row_of n place) k) (back_and_on (column_of n place) (columns n) below)
    ∙ place_at-own n place there.proc
there_and_back n East place there =
    let below = column_of-lt n place there.proc in
    let moved : (column_of n place + 1) % columns n < columns n = mod-lt (column_of n place + 1) (omega arith) in
    (λ i. place_at n (row_of-place_at n (row_of n place) ((column_of n place + 1) % columns n) moved i)
    ((column_of-place_at n (row_of n place) ((column_of n place + 1) % columns n) moved i + columns n - 1) % columns n))
    ∙ ap (λ (k : ℕ). place_at n (row_of n place) k) (on_and_back (column_of n place) (columns n) below)
    ∙ place_at-own n place there.proc

pub neighbours_lead_back : NeighboursLeadBack
neighbours_lead_back n dir place there = record {
  within = neighbour_is_place n dir place there;
  back = there_and_back n dir place there;
}
