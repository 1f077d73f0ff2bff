-- Rows into which words of other rows were copied, and the chips of both.
use Rattle.std.proofs.Common.{◌≡◌, ◌⊎◌, inl, inr, ℕ, ◌+◌, ◌-◌, ◌*◌, ◌<◌, ◌≤◌, List, [], length, get_or, take, drop, sym}
use Rattle.std.proofs.Common.{ap, ◌∙◌, ⊎_elim, arith, length-take, length-drop}
use Rattle.std.proofs.lemmas.Bool.{cases_lt}
use Rattle.std.proofs.lemmas.List.{get_or-take, get_or-drop, get_or_past}
use Rattle.cm_model.specs.Each.{tabulate}
use Rattle.cm_model.specs.Array.{Chips, chip_at}
use Rattle.cm_model.specs.Whole.{IsChip}
use Rattle.cm_model.proofs.Each.{same_each_below, get_or-each_below, length-tabulate}
use Rattle.cm_element.specs.declared.run.lay.Band.{Band}
use Rattle.cm_element.specs.Laid.{AreLaid, ArePutRows, AreLaidRows}
use Rattle.cm_element.specs.Planes.{chip_of}
use Rattle.cm_element.specs.Runs.{chip_column, chips_of, chip_beside, chips_beside, AreRows}
use Rattle.cm_element.proofs.Columns.{next_row, chip_at-chips_of, length-chips_of}
use Rattle.cm_element.proofs.Planes.{planes_are_whole}

-- ---- words

-- a word of a part of a list
pub get_or-part : (words : List ℕ) (at end count k : ℕ) → end - at ≡ count → k < count
    → get_or (take (end - at) (drop at words)) k 0 ≡ get_or words (at + k) 0
get_or-part words at end count k few h = get_or-take (end - at) (drop at words) k 0 (omega (arith, few))
    ∙ get_or-drop at words k 0

pub length-part : (words : List ℕ) (at end count : ℕ) → end - at ≡ count → at + count ≤ length words
    → length (take (end - at) (drop at words)) ≡ count
length-part words at end count few inside =
    omega (arith, few, length-take (end - at) (drop at words), length-drop at words)

-- words were put into a list from a place on
pub record IsPutAt (at count : ℕ) (part old new : List ℕ) : Type 0 where
  pub value : (c : ℕ) → c < count → get_or new (at + c) 0 ≡ get_or part c 0
  pub below : (i : ℕ) → i < at → get_or new i 0 ≡ get_or old i 0
  pub above : (i : ℕ) → at + count ≤ i → get_or new i 0 ≡ get_or old i 0

-- these words were put into one more row
pub put_more : (here : Band) (row count : ℕ) (word : ℕ → ℕ → ℕ) (old new part : List ℕ)
    → here.first + count ≤ here.stride → IsPutAt (row * here.stride + here.first) count part old new
    → ((c : ℕ) → c < count → get_or part c 0 ≡ word row c)
    → ((i c : ℕ) → i < row → c < count → get_or old (i * here.stride + (here.first + c)) 0 ≡ word i c)
    → (i c : ℕ) → i < row + 1 → c < count → get_or new (i * here.stride + (here.first + c)) 0 ≡ word i c
put_more here row count word old new part wide put part_is before i c h few = ⊎_elim
    (λ (l : i < row). let far : i * here.stride + here.stride ≤ row * here.stride = next_row i row here.stride l in
    put.below (i * here.stride + (here.first + c)) (omega arith) ∙ before i c l few)
    (λ (l : row ≤ i).
    let same : i ≡ row = omega arith in
    let place : row * here.stride + (here.first + c) ≡ row * here.stride + here.first + c = omega arith in
    rw same (ap (λ (k : ℕ). get_or new k 0) place ∙ put.value c few ∙ part_is c few))
    (cases_lt i row)

-- one more row was laid
pub laid_more : (here there : Band) (row count : ℕ) (from old new part : List ℕ) → here.first + count ≤ here.stride
    → IsPutAt (row * here.stride + here.first) count part old new
    → ((c : ℕ) → c < count → get_or part c 0 ≡ get_or from (row * there.stride + there.first + c) 0)
    → ((i c : ℕ) → i < row → c < count
    → get_or old (i * here.stride + (here.first + c)) 0 ≡ get_or from (i * there.stride + (there.first + c)) 0)
    → (i c : ℕ) → i < row + 1 → c < count
    → get_or new (i * here.stride + (here.first + c)) 0 ≡ get_or from (i * there.stride + (there.first + c)) 0
laid_more here there row count from old new part wide put part_is before =
    put_more here row count (λ i c. get_or from (i * there.stride + (there.first + c)) 0) old new part wide put
    (λ c few. let source : row * there.stride + there.first + c ≡ row * there.stride + (there.first + c) = omega arith in
    part_is c few ∙ ap (λ (k : ℕ). get_or from k 0) source)
    before

-- rows that are zeros here and there need not be laid
pub laid_over : (here there : Band) (row end count : ℕ) (from now : List ℕ)
    → here.first + count ≤ here.stride → there.first + count ≤ there.stride
    → ((i c : ℕ) → row ≤ i → i < end → c < here.stride → get_or now (i * here.stride + c) 0 ≡ 0)
    → ((i c : ℕ) → row ≤ i → i < end → c < there.stride → get_or from (i * there.stride + c) 0 ≡ 0)
    → ((i c : ℕ) → i < row → c < count
    → get_or now (i * here.stride + (here.first + c)) 0 ≡ get_or from (i * there.stride + (there.first + c)) 0)
    → (i c : ℕ) → i < end → c < count
    → get_or now (i * here.stride + (here.first + c)) 0 ≡ get_or from (i * there.stride + (there.first + c)) 0
laid_over here there row end count from now wide wide_there none none_there before i c below few = ⊎_elim
    (λ (l : i < row). before i c l few)
    (λ (l : row ≤ i). none i (here.first + c) l below (omega arith)
    ∙ sym (none_there i (there.first + c) l below (omega arith)))
    (cases_lt i row)

-- and the other words stay
pub others_more : (here : Band) (row count : ℕ) (first old new part : List ℕ) → here.first + count ≤ here.stride
    → IsPutAt (row * here.stride + here.first) count part old new
    → ((i k : ℕ) → k < here.stride → (row ≤ i) ⊎ ((k < here.first) ⊎ (here.first + count ≤ k))
    → get_or old (i * here.stride + k) 0 ≡ get_or first (i * here.stride + k) 0)
    → (i k : ℕ) → k < here.stride → (row + 1 ≤ i) ⊎ ((k < here.first) ⊎ (here.first + count ≤ k))
    → get_or new (i * here.stride + k) 0 ≡ get_or first (i * here.stride + k) 0
others_more here row count first old new part wide put before i k inside out = ⊎_elim
    (λ (l : row + 1 ≤ i). later l ∙ before i k inside (inl (omega arith)))
    (λ beside. ⊎_elim
    (λ (l : i < row). let far : i * here.stride + here.stride ≤ row * here.stride = next_row i row here.stride l in
    put.below (i * here.stride + k) (omega arith) ∙ before i k inside (inr beside))
    (λ (l : row ≤ i). ⊎_elim
    (λ (m : row < i). later (omega arith) ∙ before i k inside (inr beside))
    (λ (m : i ≤ row). let same : i ≡ row = omega arith in
    let start : i * here.stride ≡ row * here.stride = ap (λ (n : ℕ). n * here.stride) same in
    ⊎_elim
    (λ (b : k < here.first). put.below (i * here.stride + k) (omega arith))
    (λ (a : here.first + count ≤ k). put.above (i * here.stride + k) (omega arith))
    beside ∙ before i k inside (inr beside))
    (cases_lt row i))
    (cases_lt i row))
    out where
      later : row + 1 ≤ i → get_or new (i * here.stride + k) 0 ≡ get_or old (i * here.stride + k) 0
      later l = let far : row * here.stride + here.stride ≤ i * here.stride =
          next_row row i here.stride (omega arith) in
          put.above (i * here.stride + k) (omega arith)

-- ---- chips

-- the planes of a chip whose words were put into rows
chip_column-put : (here : Band) (rows count c : ℕ) (word : ℕ → ℕ → ℕ) (old new : List ℕ)
    → ArePutRows here rows count word old new → c < count
    → chip_column new here.stride rows (here.first + c) ≡ tabulate 0 rows (λ i. word i c)
unfolding chip_column
chip_column-put here rows count c word old new put few =
    same_each_below 0 rows (λ i. get_or new (i * here.stride + (here.first + c)) 0) (λ i. word i c)
    (λ i h. put.laid i c h few)

-- those of another
chip_column-others : (here : Band) (rows count k : ℕ) (word : ℕ → ℕ → ℕ) (old new : List ℕ)
    → ArePutRows here rows count word old new → k < here.stride
    → (k < here.first) ⊎ (here.first + count ≤ k) → chip_column new here.stride rows k ≡ chip_column old here.stride rows k
unfolding chip_column
chip_column-others here rows count k word old new put inside beside =
    same_each_below 0 rows (λ i. get_or new (i * here.stride + k) 0) (λ i. get_or old (i * here.stride + k) 0)
    (λ i h. put.others i k h inside beside)

-- a run, and words of some chips that were put into its rows
pub record AreWordsPut (here : Band) (count : ℕ) (memory flags memory_new flags_new : List ℕ) (chips : ℕ)
    (word flag_word : ℕ → ℕ → ℕ) : Type 0 where
  pub rows : AreRows memory flags here.stride chips
  pub inside : here.first + count ≤ chips
  pub zero : (c : ℕ) → c < count → flag_word 8 c ≡ 0
  pub laid : ArePutRows here 4096 count word memory memory_new
  pub flags_laid : ArePutRows here 16 count flag_word flags flags_new

other_chip : (here : Band) (count : ℕ) (memory flags memory_new flags_new : List ℕ) (chips : ℕ)
    (word flag_word : ℕ → ℕ → ℕ)
    → AreWordsPut here count memory flags memory_new flags_new chips word flag_word
    → (k : ℕ) → (k < here.first) ⊎ (here.first + count ≤ k)
    → get_or (chips_of memory_new flags_new here.stride chips) k [] ≡ get_or
    (chips_of memory flags here.stride chips) k []
other_chip here count memory flags memory_new flags_new chips word flag_word is k beside = ⊎_elim
    (λ (h : k < chips). let few : chips ≤ here.stride = is.rows.within in let inside : k < here.stride = omega arith in
    chip_at-chips_of memory_new flags_new here.stride chips k h
    ∙ (λ j. chip_of (chip_column-others here 4096 count k word memory memory_new is.laid inside beside j)
    (chip_column-others here 16 count k flag_word flags flags_new is.flags_laid inside beside j))
    ∙ sym (chip_at-chips_of memory flags here.stride chips k h))
    (λ (h : chips ≤ k).
    get_or_past (chips_of memory_new flags_new here.stride chips)
    k [] (omega (arith, h, length-chips_of memory_new flags_new here.stride chips))
    ∙ sym (get_or_past (chips_of memory flags here.stride chips)
    k [] (omega (arith, h, length-chips_of memory flags here.stride chips))))
    (cases_lt k chips)

-- the chips that were put, if these are those of the words
pub chips_put : (here : Band) (count : ℕ) (memory flags memory_new flags_new : List ℕ) (chips : ℕ)
    (word flag_word : ℕ → ℕ → ℕ) (first : ℕ) (from : Chips)
    → AreWordsPut here count memory flags memory_new flags_new chips word flag_word
    → ((c : ℕ) → c < count → chip_of (tabulate 0 4096 (λ i. word i c)) (tabulate 0 16 (λ i. flag_word i c))
    ≡ chip_at from (first + c))
    → AreLaid here.first first count from (chips_of memory flags here.stride chips)
    (chips_of memory_new flags_new here.stride chips)
chips_put here count memory flags memory_new flags_new chips word flag_word first from is same = record {
  chips = length-chips_of memory_new flags_new here.stride chips ∙ sym (length-chips_of memory flags here.stride chips);
  laid = λ c few. let inside = is.inside in
      chip_at-chips_of memory_new flags_new here.stride chips (here.first + c) (omega arith)
      ∙ (λ j. chip_of (chip_column-put here 4096 count c word memory memory_new is.laid few j)
      (chip_column-put here 16 count c flag_word flags flags_new is.flags_laid few j))
      ∙ same c few;
  below = λ c h. other_chip here count memory flags memory_new flags_new chips word flag_word is c (inl h);
  above = λ c h. other_chip here count memory flags memory_new flags_new chips word flag_word is c (inr h);
}

-- the new rows are rows
pub rows_put : (here : Band) (count : ℕ) (memory flags memory_new flags_new : List ℕ) (chips : ℕ)
    (word flag_word : ℕ → ℕ → ℕ)
    → AreWordsPut here count memory flags memory_new flags_new chips word flag_word
    → length memory_new ≡ length memory → length flags_new ≡ length flags
    → AreRows memory_new flags_new here.stride chips
rows_put here count memory flags memory_new flags_new chips word flag_word is memory_long flags_long = record {
  memory_words = memory_long ∙ is.rows.memory_words;
  flag_words = flags_long ∙ is.rows.flag_words;
  within = is.rows.within;
  few = is.rows.few;
  zero = λ k h. let few : chips ≤ here.stride = is.rows.within in ⊎_elim
      (λ (b : k < here.first). is.flags_laid.others 8 k (omega arith) (omega arith) (inl b) ∙ is.rows.zero k h)
      (λ (from : here.first ≤ k). ⊎_elim
      (λ (l : k < here.first + count).
      let place : 8 * here.stride + k ≡ 8 * here.stride + (here.first + (k - here.first)) = omega arith in
      ap (λ (i : ℕ). get_or flags_new i 0) place ∙ is.flags_laid.laid 8 (k - here.first) (omega arith) (omega arith)
      ∙ is.zero (k - here.first) (omega arith))
      (λ (a : here.first + count ≤ k). is.flags_laid.others 8 k (omega arith) (omega arith) (inr a)
      ∙ is.rows.zero k h)
      (cases_lt k (here.first + count)))
      (cases_lt k here.first);
}

-- two runs, and one that has chips of both
pub record AreRunsLaid (here there : Band) (count : ℕ)
    (memory flags memory_from flags_from memory_new flags_new : List ℕ) (chips chips_from : ℕ) : Type 0 where
  pub rows : AreRows memory flags here.stride chips
  pub rows_from : AreRows memory_from flags_from there.stride chips_from
  pub inside : here.first + count ≤ chips
  pub inside_from : there.first + count ≤ chips_from
  pub laid : AreLaidRows here there 4096 count memory_from memory memory_new
  pub flags_laid : AreLaidRows here there 16 count flags_from flags flags_new

-- the words of the other run
words_of : (here there : Band) (count : ℕ) (memory flags memory_from flags_from memory_new flags_new : List ℕ)
    (chips chips_from : ℕ)
    → AreRunsLaid here there count memory flags memory_from flags_from memory_new flags_new chips chips_from
    → AreWordsPut here count memory flags memory_new flags_new chips
    (λ i c. get_or memory_from (i * there.stride + (there.first + c)) 0)
    (λ i c. get_or flags_from (i * there.stride + (there.first + c)) 0)
words_of here there count memory flags memory_from flags_from memory_new flags_new chips chips_from is = record {
  rows = is.rows;
  inside = is.inside;
  zero = λ c h. is.rows_from.zero (there.first + c) (omega (arith, is.inside_from));
  laid = is.laid;
  flags_laid = is.flags_laid;
}

pub chips_laid : (here there : Band) (count : ℕ) (memory flags memory_from flags_from memory_new flags_new : List ℕ)
    (chips chips_from : ℕ)
    → AreRunsLaid here there count memory flags memory_from flags_from memory_new flags_new chips chips_from
    → AreLaid here.first there.first count (chips_of memory_from flags_from there.stride chips_from)
    (chips_of memory flags here.stride chips) (chips_of memory_new flags_new here.stride chips)
unfolding chip_column
chips_laid here there count memory flags memory_from flags_from memory_new flags_new chips chips_from is =
    chips_put here count memory flags memory_new flags_new chips
    (λ i c. get_or memory_from (i * there.stride + (there.first + c)) 0)
    (λ i c. get_or flags_from (i * there.stride + (there.first + c)) 0) there.first
    (chips_of memory_from flags_from there.stride chips_from)
    (words_of here there count memory flags memory_from flags_from memory_new flags_new chips chips_from is)
    (λ c h. sym (chip_at-chips_of memory_from flags_from there.stride chips_from (there.first + c)
    (omega (arith, is.inside_from))))

-- the new rows are rows
pub rows_laid : (here there : Band) (count : ℕ) (memory flags memory_from flags_from memory_new flags_new : List ℕ)
    (chips chips_from : ℕ)
    → AreRunsLaid here there count memory flags memory_from flags_from memory_new flags_new chips chips_from
    → length memory_new ≡ length memory → length flags_new ≡ length flags
    → AreRows memory_new flags_new here.stride chips
rows_laid here there count memory flags memory_from flags_from memory_new flags_new chips chips_from is =
    rows_put here count memory flags memory_new flags_new chips
    (λ i c. get_or memory_from (i * there.stride + (there.first + c)) 0)
    (λ i c. get_or flags_from (i * there.stride + (there.first + c)) 0)
    (words_of here there count memory flags memory_from flags_from memory_new flags_new chips chips_from is)

-- chip c of those that lie chip by chip
pub chip_at-chips_beside : (memory flags : List ℕ) (count c : ℕ) → c < count
    → chip_at (chips_beside memory flags count) c ≡ chip_beside memory flags c
unfolding chips_beside
chip_at-chips_beside memory flags count c h = get_or-each_below count (chip_beside memory flags) c [] h

-- and put into rows
pub chips_turned : (here : Band) (count : ℕ) (memory flags memory_from flags_from memory_new flags_new : List ℕ)
    (chips : ℕ)
    → AreWordsPut here count memory flags memory_new flags_new chips (λ i c. get_or memory_from (c * 4128 + i) 0)
    (λ i c. get_or flags_from (c * 16 + i) 0)
    → AreLaid here.first 0 count (chips_beside memory_from flags_from count)
    (chips_of memory flags here.stride chips) (chips_of memory_new flags_new here.stride chips)
chips_turned here count memory flags memory_from flags_from memory_new flags_new chips is =
    chips_put here count memory flags memory_new flags_new chips (λ i c. get_or memory_from (c * 4128 + i) 0)
    (λ i c. get_or flags_from (c * 16 + i) 0) 0 (chips_beside memory_from flags_from count) is
    (λ c h. sym (chip_at-chips_beside memory_from flags_from count (0 + c) (omega arith)
    ∙ ap (λ (k : ℕ). chip_beside memory_from flags_from k) (let same : 0 + c ≡ c = omega arith in same)))

pub length-chips_beside : (memory flags : List ℕ) (count : ℕ) → length (chips_beside memory flags count) ≡ count
unfolding chips_beside
length-chips_beside memory flags count = length-tabulate 0 count (chip_beside memory flags)

-- each is whole, if its flag ZERO is 0
pub IsChip-chips_beside : (memory flags : List ℕ) (count c : ℕ) → c < count → get_or flags (c * 16 + 8) 0 ≡ 0
    → IsChip (chip_at (chips_beside memory flags count) c)
IsChip-chips_beside memory flags count c h zero =
    rw (chip_at-chips_beside memory flags count c h)
    (planes_are_whole (tabulate 0 4096 (λ a. get_or memory (c * 4128 + a) 0))
    (tabulate 0 16 (λ f. get_or flags (c * 16 + f) 0)) (record {
      memory_planes = length-tabulate 0 4096 (λ a. get_or memory (c * 4128 + a) 0);
      flag_planes = length-tabulate 0 16 (λ f. get_or flags (c * 16 + f) 0);
      zero = get_or-each_below 16 (λ f. get_or flags (c * 16 + f) 0) 8 0 (omega arith) ∙ zero;
    }))
