-- The planes of one chip among the rows of many.
use Rattle.std.proofs.Common.{◌≡◌, ◌≢◌, ◌⊎◌, inl, inr, ℕ, ◌+◌, ◌*◌, ◌<◌, ◌≤◌, zero, suc, List, [], length, get_or, set}
use Rattle.std.proofs.Common.{replicate, refl, sym, ap, ◌∙◌, ⊎_elim, arith, lit<, ext_get_or}
use Rattle.std.proofs.Common.{get_or-set_same, get_or-set_other, length-set}
use Rattle.std.proofs.lemmas.Bool.{cases_lt}
use Rattle.std.proofs.lemmas.Nat.{mul-le}
use Rattle.std.proofs.lemmas.List.{get_or_read}
use Rattle.cm_bits.specs.Bit.{bit}
use Rattle.cm_model.specs.Processor.{memory_bit, flag}
use Rattle.cm_model.specs.Chip.{blank_chip, processor_at}
use Rattle.std.proofs.lemmas.Simd.{length-replicate}
use Rattle.cm_model.specs.Each.{tabulate}
use Rattle.cm_model.proofs.Each.{get_or-each_below, length-tabulate, same_each_below}
use Rattle.cm_rows.specs.Rows.{IsApart}
use Rattle.cm_model.specs.Whole.{IsChip}
use Rattle.cm_element.specs.Runs.{chip_column, chip_of_rows, chips_of, AreRows}
use Rattle.cm_element.proofs.Planes.{blank_planes, memory_bit-chip_of, flag-chip_of, planes_are_whole}

pub get_or-chip_column : (rows : List ℕ) (stride count c i : ℕ) → i < count
    → get_or (chip_column rows stride count c) i 0 ≡ get_or rows (i * stride + c) 0
unfolding chip_column
get_or-chip_column rows stride count c i h = get_or-each_below count (λ i. get_or rows (i * stride + c) 0) i 0 h

pub length-chip_column : (rows : List ℕ) (stride count c : ℕ) → length (chip_column rows stride count c) ≡ count
unfolding chip_column
length-chip_column rows stride count c = length-tabulate 0 count (λ i. get_or rows (i * stride + c) 0)

pub chip_at-chips_of : (memory flags : List ℕ) (stride chips c : ℕ) → c < chips
    → get_or (chips_of memory flags stride chips) c [] ≡ chip_of_rows memory flags stride c
unfolding chips_of
chip_at-chips_of memory flags stride chips c h = get_or-each_below chips (chip_of_rows memory flags stride) c [] h

pub length-chips_of : (memory flags : List ℕ) (stride chips : ℕ) → length (chips_of memory flags stride chips) ≡ chips
unfolding chips_of
length-chips_of memory flags stride chips = length-tabulate 0 chips (chip_of_rows memory flags stride)

-- a row ends before the next one begins
pub next_row : (i j stride : ℕ) → i < j → i * stride + stride ≤ j * stride
next_row i j stride h =
    let more : (i + 1) * stride ≤ j * stride = mul-le (i + 1) stride j stride (omega arith) (omega arith) in
    let is : (i + 1) * stride ≡ i * stride + stride = omega arith in
    omega (arith, more, is)

-- Rows begin a pitch apart. A word of another row than these words, or at another place of it, lies before or after all
-- of them.
pub beside_part : (pitch count c d i to : ℕ) → i < pitch → to + count ≤ pitch
    → ((c < d) ⊎ (d < c)) ⊎ ((i < to) ⊎ (to + count ≤ i))
    → (c * pitch + i < d * pitch + to) ⊎ (d * pitch + to + count ≤ c * pitch + i)
beside_part pitch count c d i to inside within other = ⊎_elim
    (λ (l : c < d). let far : c * pitch + pitch ≤ d * pitch = next_row c d pitch l in inl (omega arith))
    (λ (no_less : d ≤ c). ⊎_elim
    (λ (m : d < c). let far : d * pitch + pitch ≤ c * pitch = next_row d c pitch m in inr (omega arith))
    (λ (no_more : c ≤ d).
    let same : c ≡ d = omega arith in
    ⊎_elim
    (λ (apart : (c < d) ⊎ (d < c)). absurd (⊎_elim (λ (l : c < d). omega arith) (λ (m : d < c). omega arith) apart))
    (λ (beside : (i < to) ⊎ (to + count ≤ i)). rw same (⊎_elim
    (λ (b : i < to). inl (omega (arith, b)))
    (λ (a : to + count ≤ i). inr (omega (arith, a)))
    beside))
    other)
    (cases_lt d c))
    (cases_lt c d)

pub row_within : (i rows stride : ℕ) → i < rows → i * stride + stride ≤ rows * stride
row_within i rows stride h = next_row i rows stride h

-- two rows are one, or apart
pub rows_apart : (i j stride chips : ℕ) → chips ≤ stride → IsApart (i * stride) (j * stride) chips
rows_apart i j stride chips few = ⊎_elim
    (λ (h : j < i). before (next_row j i stride h))
    (λ (h : i ≤ j). after (mul-le i stride j stride h (omega arith)))
    (cases_lt j i) where
      before : j * stride + stride ≤ i * stride → IsApart (i * stride) (j * stride) chips
      before h = inr (omega arith)

      after : i * stride ≤ j * stride → IsApart (i * stride) (j * stride) chips
      after h = inl h

-- only the words of one row were changed
pub record IsRowChanged (row stride chips : ℕ) (old new : List ℕ) : Type 0 where
  pub below : (i : ℕ) → i < row * stride → get_or new i 0 ≡ get_or old i 0
  pub above : (i : ℕ) → row * stride + chips ≤ i → get_or new i 0 ≡ get_or old i 0

-- then one plane of a chip was changed
pub chip_column-changed : (row stride chips count c : ℕ) (old new : List ℕ) → chips ≤ stride → c < chips → row < count
    → IsRowChanged row stride chips old new
    → chip_column new stride count c ≡ set (chip_column old stride count c) row (get_or new (row * stride + c) 0)
chip_column-changed row stride chips count c old new few here inside is =
    let word : ℕ = get_or new (row * stride + c) 0 in
    let long : length (chip_column old stride count c) ≡ count = length-chip_column old stride count c in
    let in_column : row < length (chip_column old stride count c) = omega (arith, long) in
    ext_get_or 0 (chip_column new stride count c) (set (chip_column old stride count c) row (get_or new (row * stride + c) 0))
    (length-chip_column new stride count c
    ∙ sym (length-set (chip_column old stride count c) row (get_or new (row * stride + c) 0) ∙ long))
    (λ i h. let below : i < count = omega (arith, length-chip_column new stride count c) in
    get_or-chip_column new stride count c i below ∙ sym (elsewhere in_column i below)) where
      elsewhere : row < length (chip_column old stride count c) → (i : ℕ) → i < count → get_or
          (set (chip_column old stride count c) row (get_or new (row * stride + c) 0)) i 0 ≡ get_or new (i * stride + c) 0
      elsewhere in_column i below = ⊎_elim
          (λ (h : i < row). let other : i ≢ row = omega arith in
          let far : i * stride + stride ≤ row * stride = next_row i row stride h in
          get_or-set_other (chip_column old stride count c) row i (get_or new (row * stride + c) 0) 0 other
          ∙ get_or-chip_column old stride count c i below ∙ sym (is.below (i * stride + c) (omega arith)))
          (λ (h : row ≤ i). ⊎_elim
          (λ (more : row < i). let other : i ≢ row = omega arith in
          let far : row * stride + stride ≤ i * stride = next_row row i stride more in
          get_or-set_other (chip_column old stride count c) row i (get_or new (row * stride + c) 0) 0 other
          ∙ get_or-chip_column old stride count c i below ∙ sym (is.above (i * stride + c) (omega arith)))
          (λ (no_more : i ≤ row). let same : i ≡ row = omega arith in
          rw same (get_or-set_same (chip_column old stride count c) row (get_or new (row * stride + c) 0) 0 in_column))
          (cases_lt row i))
          (cases_lt i row)

-- what is read of zeros is 0
pub get_or-zeros : (n i : ℕ) → let none : ℕ = 0 in get_or (replicate n none) i none ≡ none
get_or-zeros zero i = refl
get_or-zeros (suc n) zero = refl
get_or-zeros (suc n) (suc i) = get_or-zeros n i

chip_column-zeros : (rows : List ℕ) (n stride count c : ℕ) → rows ≡ replicate n 0
    → chip_column rows stride count c ≡ replicate count 0
chip_column-zeros rows n stride count c is =
    ext_get_or 0 (chip_column rows stride count c) (replicate count 0)
    (length-chip_column rows stride count c ∙ sym (length-replicate count 0))
    (λ i h. let below : i < count = omega (arith, length-chip_column rows stride count c) in
    get_or-chip_column rows stride count c i below ∙ ap (λ ws. get_or ws (i * stride + c) 0) is
    ∙ get_or-zeros n (i * stride + c) ∙ sym (get_or-zeros count i))

pub blank_rows : (memory flags : List ℕ) (n m stride chips : ℕ) → memory ≡ replicate n 0 → flags ≡ replicate m 0
    → chips_of memory flags stride chips ≡ tabulate 0 chips (λ c. blank_chip)
unfolding chips_of
blank_rows memory flags n m stride chips memory_is flags_is =
    same_each_below [] chips (chip_of_rows memory flags stride) (λ c. blank_chip)
    (λ c h. blank_planes (chip_column memory stride 4096 c) (chip_column flags stride 16 c)
    (chip_column-zeros memory n stride 4096 c memory_is) (chip_column-zeros flags m stride 16 c flags_is))

-- the same of two places
pub apart_at : (i j stride chips first second : ℕ) → first ≡ i * stride → second ≡ j * stride → chips ≤ stride
    → IsApart first second chips
apart_at i j stride chips first second first_is second_is few =
    rw (first_is, second_is) (rows_apart i j stride chips few)

-- what is read at a chip's word of a row is its plane
pub plane_in : (memory flags : List ℕ) (stride chips chip at index word : ℕ) → chip < chips
    → at < 4096 → index < length memory
    → index ≡ at * stride + chip → word ≡ get_or memory index word
    → (p : ℕ) → p < 16 → bit word p
    ≡ memory_bit (processor_at (get_or (chips_of memory flags stride chips) chip []) p) at
plane_in memory flags stride chips chip at index word here below inside is read p h =
    ap (λ (w : ℕ). bit w p) (get_or_read memory index word inside read 0 ∙ ap (λ (i : ℕ). get_or memory i 0) is
    ∙ sym (get_or-chip_column memory stride 4096 chip at below))
    ∙ sym (memory_bit-chip_of (chip_column memory stride 4096 chip) (chip_column flags stride 16 chip) p at h)
    ∙ sym (ap (λ c. memory_bit (processor_at c p) at) (chip_at-chips_of memory flags stride chips chip here))

pub flag_plane_in : (memory flags : List ℕ) (stride chips chip number index word : ℕ) → chip < chips
    → number < 16 → index < length flags
    → index ≡ number * stride + chip → word ≡ get_or flags index word
    → (p : ℕ) → p < 16 → bit word p ≡ flag (processor_at (get_or (chips_of memory flags stride chips) chip []) p) number
flag_plane_in memory flags stride chips chip number index word here below inside is read p h =
    ap (λ (w : ℕ). bit w p) (get_or_read flags index word inside read 0 ∙ ap (λ (i : ℕ). get_or flags i 0) is
    ∙ sym (get_or-chip_column flags stride 16 chip number below))
    ∙ sym (flag-chip_of (chip_column memory stride 4096 chip) (chip_column flags stride 16 chip) p number h)
    ∙ sym (ap (λ c. flag (processor_at c p) number) (chip_at-chips_of memory flags stride chips chip here))

-- a chip of the run has a word in each row
pub has_word : (memory flags : List ℕ) (stride chips chip : ℕ) → AreRows memory flags stride chips
    → chip < length (chips_of memory flags stride chips) → chip < stride
has_word memory flags stride chips chip rows here =
    omega (arith, here, length-chips_of memory flags stride chips, rows.within)

-- every chip of the rows is whole
pub chip_is_whole : (memory flags : List ℕ) (stride chips chip : ℕ) → AreRows memory flags stride chips
    → chip < length (chips_of memory flags stride chips)
    → IsChip (get_or (chips_of memory flags stride chips) chip [])
chip_is_whole memory flags stride chips chip rows here =
    let below : chip < chips = omega (arith, here, length-chips_of memory flags stride chips) in
    rw (chip_at-chips_of memory flags stride chips chip below)
    (planes_are_whole (chip_column memory stride 4096 chip) (chip_column flags stride 16 chip) (record {
      memory_planes = length-chip_column memory stride 4096 chip;
      flag_planes = length-chip_column flags stride 16 chip;
      zero = get_or-chip_column flags stride 16 chip 8 (lit< tt) ∙ rows.zero chip below;
    }))
