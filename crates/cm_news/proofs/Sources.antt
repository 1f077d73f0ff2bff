-- Where a step that leads to a place comes from: the same chip, or one edge of one other chip.
use Rattle.std.proofs.Common.{◌≡◌, ℕ, ◌+◌, ◌-◌, ◌*◌, ◌/◌, ◌%◌, ◌^◌, ◌<◌, true, false, lit<, refl, ap, ◌∙◌, sym, arith}
use Rattle.std.proofs.lemmas.Bool.{eqb-true, eqb-false}
use Rattle.cm_bits.specs.declared.place.Place.{Place}
use Rattle.cm_bits.specs.declared.plane.Dir.{Dir}
use Rattle.cm_bits.specs.declared.plane.Dir.TheVariants.{North, East, West, South}
use Rattle.cm_model.specs.Place.{chip_columns, rows, columns, place_at, neighbour, source}
use Rattle.cm_model.proofs.Torus.{on_within, on_over, back_within, back_over, chip_row-lt}
use Rattle.cm_model.proofs.Torus.{chip_column-lt, chip-own, place_at-split}
use Rattle.cm_news.specs.Moves.{is_entry, one_back, at_edge, bit_along_edge, corner}
use Rattle.cm_news.specs.Laws.{StepsAreTheTorus}

-- rows of chips
abbrev pub chip_rows : ℕ → ℕ
chip_rows n = 2 ^ (n - n / 2)

-- the chip whose edge leads to this one's in a direction
abbrev pub chip_before : ℕ → Dir → ℕ → ℕ
chip_before n North chip = (chip / chip_columns n + 1) % chip_rows n * chip_columns n + chip % chip_columns n
chip_before n South chip =
    (chip / chip_columns n + chip_rows n - 1) % chip_rows n * chip_columns n + chip % chip_columns n
chip_before n West chip = chip / chip_columns n * chip_columns n + (chip % chip_columns n + 1) % chip_columns n
chip_before n East chip =
    chip / chip_columns n * chip_columns n + (chip % chip_columns n + chip_columns n - 1) % chip_columns n

-- a place of the same chip, told by the row and the column of its chip
same_chip : (n chip p : ℕ)
    → let place : Place = record { chip = chip / chip_columns n * chip_columns n + chip % chip_columns n; proc = p } in
    place ≡ record { chip = chip; proc = p }
same_chip n chip p = λ i. record { chip = chip-own n chip i; proc = p }

inside : (n : ℕ) (dir : Dir) (chip p : ℕ) → chip < 2 ^ n → p < 16 → is_entry dir p ≡ false
    → source n dir (record { chip = chip; proc = p }) ≡ record { chip = chip; proc = one_back dir p }
unfolding neighbour
inside n North chip p there h others =
    let not_last : ¬ (p / 4 ≡ 3) = eqb-false (p / 4) 3 others in
    ap (λ (k : ℕ). place_at n k (4 * (chip % chip_columns n) + p % 4))
    (on_within (chip / chip_columns n) (p / 4) (chip_rows n) (chip_row-lt n chip there) (omega arith))
    ∙ place_at-split n (chip / chip_columns n) (p / 4 + 1) (chip % chip_columns n) (p % 4) (omega arith) (omega arith)
    ∙ same_chip n chip (one_back North p)
inside n South chip p there h others =
    let not_first : ¬ (p / 4 ≡ 0) = eqb-false (p / 4) 0 others in
    ap (λ (k : ℕ). place_at n k (4 * (chip % chip_columns n) + p % 4)) (back_within (chip / chip_columns n) (p / 4)
    (chip_rows n) (chip_row-lt n chip there) (omega arith) (omega arith))
    ∙ place_at-split n (chip / chip_columns n) (p / 4 - 1) (chip % chip_columns n) (p % 4) (omega arith) (omega arith)
    ∙ same_chip n chip (one_back South p)
inside n West chip p there h others =
    let not_last : ¬ (p % 4 ≡ 3) = eqb-false (p % 4) 3 others in
    ap (λ (k : ℕ). place_at n (4 * (chip / chip_columns n) + p / 4) k)
    (on_within (chip % chip_columns n) (p % 4) (chip_columns n) (chip_column-lt n chip) (omega arith))
    ∙ place_at-split n (chip / chip_columns n) (p / 4) (chip % chip_columns n) (p % 4 + 1) (omega arith) (omega arith)
    ∙ same_chip n chip (one_back West p)
inside n East chip p there h others =
    let not_first : ¬ (p % 4 ≡ 0) = eqb-false (p % 4) 0 others in
    ap (λ (k : ℕ). place_at n (4 * (chip / chip_columns n) + p / 4) k) (back_within (chip % chip_columns n) (p % 4)
    (chip_columns n) (chip_column-lt n chip) (omega arith) (omega arith))
    ∙ place_at-split n (chip / chip_columns n) (p / 4) (chip % chip_columns n) (p % 4 - 1) (omega arith) (omega arith)
    ∙ same_chip n chip (one_back East p)

pub over_edge : (n : ℕ) (dir : Dir) (chip p : ℕ) → chip < 2 ^ n → p < 16 → is_entry dir p ≡ true
    → source n dir (record { chip = chip; proc = p })
    ≡ record { chip = chip_before n dir chip; proc = at_edge dir (bit_along_edge dir p) }
unfolding neighbour
over_edge n North chip p there h entry =
    ap (λ (r : ℕ). place_at n ((4 * (chip / chip_columns n) + r + 1) % rows n) (4 * (chip % chip_columns n) + p % 4))
    (eqb-true (p / 4) 3 entry)
    ∙ ap (λ (k : ℕ). place_at n k (4 * (chip % chip_columns n) + p % 4))
    (on_over (chip / chip_columns n) (chip_rows n) (chip_row-lt n chip there))
    ∙ place_at-split n ((chip / chip_columns n + 1) % chip_rows n) 0 (chip % chip_columns n) (p % 4)
    (omega arith) (omega arith)
over_edge n South chip p there h entry =
    ap (λ (r : ℕ). place_at n ((4 * (chip / chip_columns n) + r + rows n - 1) % rows n)
    (4 * (chip % chip_columns n) + p % 4)) (eqb-true (p / 4) 0 entry)
    ∙ ap (λ (k : ℕ). place_at n k (4 * (chip % chip_columns n) + p % 4))
    (back_over (chip / chip_columns n) (chip_rows n) (chip_row-lt n chip there))
    ∙ place_at-split n ((chip / chip_columns n + chip_rows n - 1) % chip_rows n) 3 (chip % chip_columns n) (p % 4)
    (omega arith) (omega arith)
over_edge n West chip p there h entry =
    ap (λ (s : ℕ). place_at n (4 * (chip / chip_columns n) + p / 4) ((4 * (chip % chip_columns n) + s + 1) % columns n))
    (eqb-true (p % 4) 3 entry)
    ∙ ap (λ (k : ℕ). place_at n (4 * (chip / chip_columns n) + p / 4) k)
    (on_over (chip % chip_columns n) (chip_columns n) (chip_column-lt n chip))
    ∙ place_at-split n (chip / chip_columns n) (p / 4) ((chip % chip_columns n + 1) % chip_columns n) 0
    (omega arith) (omega arith)
over_edge n East chip p there h entry =
    ap (λ (s : ℕ). place_at n (4 * (chip / chip_columns n) + p / 4)
    ((4 * (chip % chip_columns n) + s + columns n - 1) % columns n)) (eqb-true (p % 4) 0 entry)
    ∙ ap (λ (k : ℕ). place_at n (4 * (chip / chip_columns n) + p / 4) k)
    (back_over (chip % chip_columns n) (chip_columns n) (chip_column-lt n chip))
    ∙ place_at-split n (chip / chip_columns n) (p / 4) ((chip % chip_columns n + chip_columns n - 1) % chip_columns n) 3
    (omega arith) (omega arith)

-- steps come in at the corner
corner_is_entry : (dir : Dir) → is_entry dir (corner dir) ≡ true
corner_is_entry North = refl
corner_is_entry South = refl
corner_is_entry West = refl
corner_is_entry East = refl

corner-lt : (dir : Dir) → corner dir < 16
corner-lt North = lit< tt
corner-lt South = lit< tt
corner-lt West = lit< tt
corner-lt East = lit< tt

pub steps_are_the_torus : StepsAreTheTorus
steps_are_the_torus n dir chip p there h = record {
  inside = inside n dir chip p there h;
  edge = λ entry.
      let before : (source n dir (record { chip = chip; proc = corner dir })).chip ≡ chip_before n dir chip =
      ap (λ (place : Place). place.chip)
      (over_edge n dir chip (corner dir) there (corner-lt dir) (corner_is_entry dir)) in
      over_edge n dir chip p there h entry ∙ (λ i. record { chip = sym before i; proc = at_edge dir (bit_along_edge dir p) });
}
