-- A run after one word of its rows was set: one plane of one chip was replaced.
use Rattle.std.proofs.Common.{◌≡◌, ◌≢◌, ℕ, suc, ◌+◌, ◌-◌, ◌*◌, ◌<◌, ◌≤◌, ◌==◌, Bool, true, false, List, [], ◌∷◌, ◌++◌}
use Rattle.std.proofs.Common.{length, take, drop, get_or, set, sym, ap, ◌∙◌, ⊎_elim, arith, append_assoc, length-append}
use Rattle.std.proofs.Common.{length-take, length-drop, get_or-set_same, get_or-set_other, length-set}
use Rattle.std.proofs.Math.Seq.{drop-cons}
use Rattle.std.proofs.lemmas.Bool.{cases_lt, cases_Bool, eqb-true, eqb-false}
use Rattle.std.proofs.lemmas.List.{length-take-le, set-append_right, set-get_or, set-set, take-append-drop}
use Rattle.std.proofs.lemmas.List.FromFn.{map-range_with_len_more}
use Rattle.cm_bits.specs.Bit.{bit}
use Rattle.cm_model.specs.Processor.{Processor}
use Rattle.cm_model.specs.Chip.{no_processor, with_memory_bit}
use Rattle.cm_model.specs.Letters.{bits_of, with_field}
use Rattle.cm_model.specs.Whole.{IsChip}
use Rattle.cm_model.proofs.Each.{same_each_below, is_each}
use Rattle.cm_model.proofs.Wholes.{length-bits_of}
use Rattle.cm_element.specs.Planes.{chip_of}
use Rattle.cm_element.specs.Runs.{chip_column, chip_of_rows, chips_of, AreRows}
use Rattle.cm_element.specs.Wide.{with_memory_field}
use Rattle.cm_element.proofs.Columns.{next_row, row_within, chip_column-changed, chip_at-chips_of}
use Rattle.cm_element.proofs.Columns.{length-chips_of, IsRowChanged}

-- words of two chips are two
other_word : (i j stride c k : ℕ) → c < stride → k < stride → k ≢ c → i * stride + k ≢ j * stride + c
other_word i j stride c k here there other e = ⊎_elim
    (λ (h : i < j). let far : i * stride + stride ≤ j * stride = next_row i j stride h in absurd (omega arith))
    (λ (h : j ≤ i). ⊎_elim
    (λ (more : j < i). let far : j * stride + stride ≤ i * stride = next_row j i stride more in absurd (omega arith))
    (λ (no_more : i ≤ j). let same : i ≡ j = omega arith in
    let start : i * stride ≡ j * stride = ap (λ (n : ℕ). n * stride) same in absurd (omega arith))
    (cases_lt j i))
    (cases_lt i j)

-- the planes of the chip whose word was set
pub chip_column-set : (rows : List ℕ) (stride count c row word : ℕ) → c < stride → row < count → length rows ≡ count * stride
    → chip_column (set rows (row * stride + c) word) stride count c ≡ set (chip_column rows stride count c) row word
chip_column-set rows stride count c row word here inside long =
    let within : row * stride + stride ≤ count * stride = row_within row count stride inside in
    let changed : IsRowChanged row stride stride rows (set rows (row * stride + c) word) = record {
      below = λ i h. let other : i ≢ row * stride + c = omega arith in
          get_or-set_other rows (row * stride + c) i word 0 other;
      above = λ i h. let other : i ≢ row * stride + c = omega arith in
          get_or-set_other rows (row * stride + c) i word 0 other;
    } in
    chip_column-changed row stride stride count c rows (set rows (row * stride + c) word) (omega arith) here inside changed
    ∙ ap (set (chip_column rows stride count c) row)
    (get_or-set_same rows (row * stride + c) word 0 (omega (arith, long, within)))

-- those of the others
pub chip_column-set_other : (rows : List ℕ) (stride count c k row word : ℕ) → c < stride → k < stride → k ≢ c
    → chip_column (set rows (row * stride + c) word) stride count k ≡ chip_column rows stride count k
unfolding chip_column
chip_column-set_other rows stride count c k row word here there other =
    same_each_below 0 count (λ i. get_or (set rows (row * stride + c) word) (i * stride + k) 0)
    (λ i. get_or rows (i * stride + k) 0)
    (λ i h. get_or-set_other rows (row * stride + c) (i * stride + k) word 0
    (other_word i row stride c k here there other))

-- the chips with another one in the place of one
pub chip_replaced : (memory flags memory_new flags_new : List ℕ) (stride chips c : ℕ) (chip : List Processor)
    → c < chips → chip_of_rows memory_new flags_new stride c ≡ chip
    → ((k : ℕ) → k < chips → k ≢ c → chip_of_rows memory_new flags_new stride k ≡ chip_of_rows memory flags stride k)
    → chips_of memory_new flags_new stride chips ≡ set (chips_of memory flags stride chips) c chip
unfolding chips_of
chip_replaced memory flags memory_new flags_new stride chips c chip here is others =
    let long : length (chips_of memory flags stride chips) ≡ chips = length-chips_of memory flags stride chips in
    let inside : c < length (chips_of memory flags stride chips) = omega (arith, here, long) in
    sym (is_each [] chips (chip_of_rows memory_new flags_new stride) (set (chips_of memory flags stride chips) c chip)
    (length-set (chips_of memory flags stride chips) c chip ∙ long)
    (λ k h. ⊎_elim
    (λ (e : (k == c) ≡ true). let same : k ≡ c = eqb-true k c e in
    rw same (get_or-set_same (chips_of memory flags stride chips) c chip [] inside ∙ sym is))
    (λ (e : (k == c) ≡ false). let other : k ≢ c = eqb-false k c e in
    get_or-set_other (chips_of memory flags stride chips) c k chip [] other
    ∙ chip_at-chips_of memory flags stride chips k h ∙ sym (others k h other))
    (cases_Bool (k == c))))

-- a word of memory was set, which makes this chip
pub memory_set : (memory flags : List ℕ) (stride chips c row word : ℕ) (chip : List Processor)
    → AreRows memory flags stride chips → c < chips → row < 4096
    → chip_of (set (chip_column memory stride 4096 c) row word) (chip_column flags stride 16 c) ≡ chip
    → chips_of (set memory (row * stride + c) word) flags stride chips ≡ set (chips_of memory flags stride chips) c chip
memory_set memory flags stride chips c row word chip rows here inside is =
    let within : chips ≤ stride = rows.within in
    chip_replaced memory flags (set memory (row * stride + c) word) flags stride chips c chip here
    (ap (λ planes. chip_of planes (chip_column flags stride 16 c))
    (chip_column-set memory stride 4096 c row word (omega arith) inside rows.memory_words) ∙ is)
    (λ k h other. ap (λ planes. chip_of planes (chip_column flags stride 16 k))
    (chip_column-set_other memory stride 4096 c k row word (omega arith) (omega arith) other))

-- a word of the flags
pub flags_set : (memory flags : List ℕ) (stride chips c row word : ℕ) (chip : List Processor)
    → AreRows memory flags stride chips → c < chips → row < 16
    → chip_of (chip_column memory stride 4096 c) (set (chip_column flags stride 16 c) row word) ≡ chip
    → chips_of memory (set flags (row * stride + c) word) stride chips ≡ set (chips_of memory flags stride chips) c chip
flags_set memory flags stride chips c row word chip rows here inside is =
    let within : chips ≤ stride = rows.within in
    chip_replaced memory flags memory (set flags (row * stride + c) word) stride chips c chip here
    (ap (chip_of (chip_column memory stride 4096 c))
    (chip_column-set flags stride 16 c row word (omega arith) inside rows.flag_words) ∙ is)
    (λ k h other. ap (chip_of (chip_column memory stride 4096 k))
    (chip_column-set_other flags stride 16 c k row word (omega arith) (omega arith) other))

-- a word of another row than that of flag ZERO leaves the rows as they are to be
pub flags_set_rows : (memory flags : List ℕ) (stride chips c row word : ℕ)
    → AreRows memory flags stride chips → c < chips → row ≢ 8
    → AreRows memory (set flags (row * stride + c) word) stride chips
flags_set_rows memory flags stride chips c row word rows here other = record {
  memory_words = rows.memory_words;
  flag_words = length-set flags (row * stride + c) word ∙ rows.flag_words;
  within = rows.within;
  few = rows.few;
  zero = λ k h. get_or-set_other flags (row * stride + c) (8 * stride + k) word 0 (elsewhere k h) ∙ rows.zero k h;
} where
  within : chips ≤ stride
  within = rows.within

  elsewhere : (k : ℕ) → k < chips → 8 * stride + k ≢ row * stride + c
  elsewhere k h e = ⊎_elim
      (λ (before : row < 8). let far : row * stride + stride ≤ 8 * stride = next_row row 8 stride before in
      absurd (omega arith))
      (λ (from : 8 ≤ row). let after : 8 < row = omega arith in
      let far : 8 * stride + stride ≤ row * stride = next_row 8 row stride after in absurd (omega arith))
      (cases_lt row 8)

-- ---- one bit after another of a number

-- one more bit of a field
with_field-more : (memory : List Bool) (at i number : ℕ) → at + i < length memory
    → set (with_field memory at i number) (at + i) (bit number i) ≡ with_field memory at (i + 1) number
unfolding with_field
with_field-more memory at i number inside =
    let first : length (take at memory) ≡ at = length-take-le at memory (omega arith) in
    let bits : length (bits_of i number) ≡ i = length-bits_of i number in
    let next : at + (i + 1) ≡ suc (at + i) = omega arith in
    let place : at + i - at ≡ i = omega arith in
    let top : i - i ≡ 0 = omega arith in
    ap (λ rest. set (take at memory ++ (bits_of i number ++ rest)) (at + i) (bit number i))
    (drop-cons memory (at + i) false inside)
    ∙ set-append_right (take at memory) (bits_of i number
    ++ (get_or memory (at + i) false ∷ drop (suc (at + i)) memory)) at (at + i) (bit number i) first (omega arith)
    ∙ ap (λ (k : ℕ). take at memory
    ++ set (bits_of i number ++ (get_or memory (at + i) false ∷ drop (suc (at + i)) memory)) k (bit number i)) place
    ∙ ap (λ bs. take at memory ++ bs) (set-append_right (bits_of i number)
    (get_or memory (at + i) false ∷ drop (suc (at + i)) memory) i i (bit number i) bits (omega arith))
    ∙ ap (λ (k : ℕ). take at memory
    ++ (bits_of i number ++ set (get_or memory (at + i) false ∷ drop (suc (at + i)) memory) k (bit number i))) top
    ∙ ap (λ bs. take at memory ++ bs)
    (sym (append_assoc (bits_of i number) (bit number i ∷ []) (drop (suc (at + i)) memory))
    ∙ ap (λ bs. bs ++ drop (suc (at + i)) memory) (sym (map-range_with_len_more (bit number) 0 i i (omega arith)))
    ∙ ap (λ (k : ℕ). bits_of (i + 1) number ++ drop k memory) (sym next))

-- a memory with so many bits of a field is as long as it was
field_within : (memory : List Bool) (at i number : ℕ) → length (with_field memory at i number) ≡ 4096 → at + i < 4096
    → at + i < length memory
unfolding with_field
field_within memory at i number long below = ⊎_elim
    (λ (l : at + i < length memory). l)
    (λ (l : length memory ≤ at + i). absurd (omega (
      arith,
      long,
      length-append (take at memory) (bits_of i number ++ drop (at + i) memory),
      length-append (bits_of i number) (drop (at + i) memory),
      length-take at memory,
      length-bits_of i number,
      length-drop (at + i) memory,
    )))
    (cases_lt (at + i) (length memory))

-- none of a number's bits leave a chip as it is
pub no_bits_yet : (chip : List Processor) (p at number : ℕ) → with_memory_field chip p at 0 number ≡ chip
unfolding with_memory_field with_field
no_bits_yet chip p at number =
    let here : at + 0 ≡ at = omega arith in
    (λ j. set chip p (record (get_or chip p no_processor) {
      memory = (ap (λ (k : ℕ). take at (get_or chip p no_processor).memory
          ++ drop k (get_or chip p no_processor).memory) here
          ∙ take-append-drop at (get_or chip p no_processor).memory) j;
    }))
    ∙ set-get_or chip p no_processor

-- one more bit of a number in a chip
pub one_more_bit_put : (chip : List Processor) (p at i number : ℕ) → IsChip (with_memory_field chip p at i number)
    → p < 16 → at + i < 4096
    → with_memory_bit (with_memory_field chip p at i number) p (at + i) (bit number i)
    ≡ with_memory_field chip p at (i + 1) number
unfolding with_memory_field with_memory_bit
one_more_bit_put chip p at i number whole below within =
    let old : Processor = get_or chip p no_processor in
    let new : Processor = record old { memory = with_field old.memory at i number } in
    let count : length chip ≡ 16 = sym (length-set chip p new) ∙ whole.count in
    let there : get_or (set chip p new) p no_processor ≡ new =
    get_or-set_same chip p new no_processor (omega (arith, count)) in
    let long : length (with_field old.memory at i number) ≡ 4096 = sym (ap (λ (v : Processor). length v.memory) there)
    ∙ (whole.each p below).memory in
    set-set chip p new (record (get_or (set chip p new) p no_processor) {
      memory = set (get_or (set chip p new) p no_processor).memory (at + i) (bit number i);
    })
    ∙ ap (λ (v : Processor). set chip p (record v { memory = set v.memory (at + i) (bit number i) })) there
    ∙ (λ j. set chip p (record old {
      memory = with_field-more old.memory at i number (field_within old.memory at i number long within) j;
    }))

-- the same in a run
pub one_more_in_run : (run : List (List Processor)) (c p at i number : ℕ) (now : List (List Processor)) → c < length run
    → now ≡ set run c (with_memory_field (get_or run c []) p at i number) → IsChip (get_or now c [])
    → p < 16 → at + i < 4096
    → set now c (with_memory_bit (get_or now c []) p (at + i) (bit number i))
    ≡ set run c (with_memory_field (get_or run c []) p at (i + 1) number)
one_more_in_run run c p at i number now here is whole below within =
    let there : get_or now c [] ≡ with_memory_field (get_or run c []) p at i number =
    ap (λ cs. get_or cs c []) is ∙ get_or-set_same run c (with_memory_field (get_or run c []) p at i number) [] here in
    let whole_there : IsChip (with_memory_field (get_or run c []) p at i number) = rw there at whole in
    (λ j. set (is j) c (with_memory_bit (there j) p (at + i) (bit number i)))
    ∙ set-set run c (with_memory_field (get_or run c []) p at i number)
    (with_memory_bit (with_memory_field (get_or run c []) p at i number) p (at + i) (bit number i))
    ∙ ap (set run c) (one_more_bit_put (get_or run c []) p at i number whole_there below within)
