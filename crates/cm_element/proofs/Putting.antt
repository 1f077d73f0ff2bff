-- One more bit of a number that goes into a field of a processor, where the rows are kept in slots.
use Rattle.std.proofs.Common.{◌≡◌, ◌≢◌, ℕ, ◌+◌, ◌*◌, ◌/◌, ◌%◌, ◌^◌, ◌<◌}
use Rattle.std.proofs.Common.{◌==◌, Bool, true, false, if◌then◌else◌, List, [], length, get_or, set}
use Rattle.std.proofs.Common.{sym, ap, ◌∙◌, arith, length-set, refl, subst, get_or-set_other}
use Rattle.std.proofs.Common.{◌-◌, ◌++◌, take, drop, length-take, length-drop}
use Rattle.std.proofs.lemmas.List.{set-get_or, take_all, drop_all, append-nil}
use Rattle.std.proofs.lemmas.List.{set-append_right, take-append-drop, get_or-drop}
use borrow.Rule.Slice.PartMut.{put_mid}
use Rattle.std.proofs.Math.Nat.{div-div-eq-div-mul}
use Rattle.std.proofs.lemmas.Nat.{pow-add}
use Rattle.cm_bits.specs.Bit.{bit}
use Rattle.cm_model.proofs.Bits.{bit-zero, bit_at-cut}
use Rattle.cm_model.specs.Processor.{Processor}
use Rattle.cm_model.specs.Chip.{IsPlane, with_memory_bit}
use Rattle.cm_element.specs.Runs.{chip_column, chips_of, AreRows}
use Rattle.cm_element.specs.Sparse.{spread, AreMemorySlots}
use Rattle.cm_element.specs.Wide.{with_memory_field}
use Rattle.cm_element.specs.Puts.{ArePut}
use Rattle.cm_element.proofs.Columns.{length-chips_of, get_or-chip_column, chip_at-chips_of, chip_is_whole}
use Rattle.cm_element.proofs.Poking.{put_memory}
use Rattle.cm_element.proofs.Replacing.{memory_set, no_bits_yet, one_more_in_run}
use Rattle.cm_element.proofs.Spreading.{length-spread, get_or-spread, spread-set, spread-zero, zero_read}
use Rattle.cm_element.proofs.Spreading.{slots_kept, IsChangedAt}

-- one bit in the rows of memory
pub memory_bit_put : (memory flags : List ℕ) (stride chips c p a word : ℕ) (b : Bool) → AreRows memory flags stride chips
    → c < chips → a < 4096 → p < 16
    → IsPlane word (λ q. if q == p then b else bit (get_or memory (a * stride + c) 0) q)
    → chips_of (set memory (a * stride + c) word) flags stride chips
    ≡ set (chips_of memory flags stride chips) c (with_memory_bit (get_or (chips_of memory flags stride chips) c []) p a b)
memory_bit_put memory flags stride chips c p a word b rows here below p_below is =
    let old : get_or memory (a * stride + c) 0 ≡ get_or (chip_column memory stride 4096 c) a 0 =
    sym (get_or-chip_column memory stride 4096 c a below) in
    memory_set memory flags stride chips c a word (with_memory_bit (get_or (chips_of memory flags stride chips) c []) p a b)
    rows here below
    (put_memory (chip_column memory stride 4096 c) (chip_column flags stride 16 c) p a word b p_below
    (λ q h. is q h ∙ ap (λ (w : ℕ). if q == p then b else bit w q) old)
    ∙ ap (λ v. with_memory_bit v p a b) (sym (chip_at-chips_of memory flags stride chips c here)))

-- one bit where an address has a row of its own: `index` is where the word of chip c lies in all words
pub slot_bit_put : (words slots flags : List ℕ) (capacity used stride chips c p a index word : ℕ) (b : Bool)
    → AreMemorySlots words capacity slots used stride → AreRows (spread words slots stride) flags stride chips
    → c < chips → a < 4096 → 0 < get_or slots a 0 → p < 16 → c < stride
    → index ≡ get_or slots a 0 * stride + c
    → IsPlane word (λ q. if q == p then b else bit (get_or words index 0) q)
    → chips_of (spread (set words index word) slots stride) flags stride chips
    ≡ set (chips_of (spread words slots stride) flags stride chips) c
    (with_memory_bit (get_or (chips_of (spread words slots stride) flags stride chips) c []) p a b)
slot_bit_put words slots flags capacity used stride chips c p a index word b are rows here below own p_below inside
    place is =
    let old : get_or words index 0 ≡ get_or (spread words slots stride) (a * stride + c) 0 =
    ap (λ (n : ℕ). get_or words n 0) place ∙ sym (get_or-spread words slots stride a c below inside) in
    ap (λ (n : ℕ). chips_of (spread (set words n word) slots stride) flags stride chips) place
    ∙ ap (λ m. chips_of m flags stride chips) (spread-set words slots capacity used stride a c word are below own inside)
    ∙ memory_bit_put (spread words slots stride) flags stride chips c p a word b rows here below p_below
    (λ q h. is q h ∙ ap (λ (w : ℕ). if q == p then b else bit w q) old)

-- a 0 where it has none: all is as it was
pub none_bit_put : (words slots flags : List ℕ) (capacity used stride chips c p a : ℕ)
    → AreMemorySlots words capacity slots used stride → AreRows (spread words slots stride) flags stride chips
    → c < chips → a < 4096 → get_or slots a 0 ≡ 0 → p < 16 → c < stride
    → chips_of (spread words slots stride) flags stride chips
    ≡ set (chips_of (spread words slots stride) flags stride chips) c
    (with_memory_bit (get_or (chips_of (spread words slots stride) flags stride chips) c []) p a false)
none_bit_put words slots flags capacity used stride chips c p a are rows here below none p_below inside =
    let old : get_or (spread words slots stride) (a * stride + c) 0 ≡ 0 =
    zero_read words slots capacity used stride stride a c are below none inside refl in
    ap (λ m. chips_of m flags stride chips) (spread-zero words slots capacity used stride a c are below none inside)
    ∙ memory_bit_put (spread words slots stride) flags stride chips c p a 0 false rows here below p_below
    (λ q h. bit-zero q ∙ sym (zeros (q == p) q) ∙ ap (λ (w : ℕ). if q == p then false else bit w q) (sym old)) where
      zeros : (b : Bool) (q : ℕ) → (if b then false else bit 0 q) ≡ false
      zeros true q = refl
      zeros false q = bit-zero q

-- the rows of memory have a word for each chip whatever the words are
pub still_rows : (words new slots flags : List ℕ) (stride chips : ℕ) → AreRows (spread words slots stride) flags stride chips
    → AreRows (spread new slots stride) flags stride chips
still_rows words new slots flags stride chips rows = record {
  memory_words = length-spread new slots stride;
  flag_words = rows.flag_words;
  within = rows.within;
  few = rows.few;
  zero = rows.zero;
}

pub none_put : (words slots : List ℕ) (stride c p at number : ℕ) → ArePut words slots stride c p at 0 number words
none_put words slots stride c p at number = record {
  kept = λ capacity used are. are;
  value = λ capacity used are flags chips rows here.
      let old : List (List Processor) = chips_of (spread words slots stride) flags stride chips in
      sym (ap (set old c) (no_bits_yet (get_or old c []) p at number) ∙ set-get_or old c []);
  long = refl;
}

-- one more
pub one_more : (words slots : List ℕ) (stride c p at i number : ℕ) (now new : List ℕ)
    → ArePut words slots stride c p at i number now
    → p < 16 → at + i < 4096
    → ((capacity used : ℕ) → AreMemorySlots now capacity slots used stride → AreMemorySlots new capacity slots used stride)
    → ((capacity used : ℕ) → AreMemorySlots now capacity slots used stride
    → (flags : List ℕ) (chips : ℕ) → AreRows (spread now slots stride) flags stride chips → c < chips
    → chips_of (spread new slots stride) flags stride chips
    ≡ set (chips_of (spread now slots stride) flags stride chips) c
    (with_memory_bit (get_or (chips_of (spread now slots stride) flags stride chips) c []) p (at + i) (bit number i)))
    → length new ≡ length now
    → ArePut words slots stride c p at (i + 1) number new
one_more words slots stride c p at i number now new put p_below below kept value long = record {
  kept = λ capacity used are. kept capacity used (put.kept capacity used are);
  value = λ capacity used are flags chips rows here.
      let old : List (List Processor) = chips_of (spread words slots stride) flags stride chips in
      let so_far : List (List Processor) = chips_of (spread now slots stride) flags stride chips in
      let rows_then : AreRows (spread now slots stride) flags stride chips =
      still_rows words now slots flags stride chips rows in
      let inside : c < length old =
      omega (arith, here, length-chips_of (spread words slots stride) flags stride chips) in
      let inside_then : c < length so_far =
      omega (arith, here, length-chips_of (spread now slots stride) flags stride chips) in
      value capacity used (put.kept capacity used are) flags chips rows_then here
      ∙ one_more_in_run old c p at i number so_far inside (put.value capacity used are flags chips rows here)
      (chip_is_whole (spread now slots stride) flags stride chips c rows_then inside_then) p_below below;
  long = long ∙ put.long;
}

-- a word in a row of its own
pub slot_put : (words slots : List ℕ) (stride c p at i number : ℕ) (now : List ℕ) (index word : ℕ)
    → ArePut words slots stride c p at i number now
    → p < 16 → at + i < 4096 → c < stride → 0 < get_or slots (at + i) 0
    → index ≡ get_or slots (at + i) 0 * stride + c
    → IsPlane word (λ q. if q == p then bit number i else bit (get_or now index 0) q)
    → ArePut words slots stride c p at (i + 1) number (set now index word)
slot_put words slots stride c p at i number now index word put p_below below inside own place is =
    one_more words slots stride c p at i number now (set now index word) put p_below below
    (λ capacity used are. slots_kept now slots capacity used stride (at + i) c (c + 1) (set now index word) capacity
    are (omega arith) below own changed (length-set now index word) (omega arith))
    (λ capacity used are flags chips rows here.
    slot_bit_put now slots flags capacity used stride chips c p (at + i) index word (bit number i) are rows here below
    own p_below inside place is)
    (length-set now index word) where
      changed : IsChangedAt (get_or slots (at + i) 0 * stride) c (c + 1) now (set now index word)
      changed = record {
        below = λ n h. let other : n ≢ index = omega (arith, h, place) in get_or-set_other now index n word 0 other;
        above = λ n h. let other : n ≢ index = omega (arith, h, place) in get_or-set_other now index n word 0 other;
      }

-- a 0 where there is none
pub zero_put : (words slots : List ℕ) (stride c p at i number : ℕ) (now : List ℕ)
    → ArePut words slots stride c p at i number now
    → p < 16 → at + i < 4096 → c < stride → get_or slots (at + i) 0 ≡ 0 → bit number i ≡ false
    → ArePut words slots stride c p at (i + 1) number now
zero_put words slots stride c p at i number now put p_below below inside none is =
    one_more words slots stride c p at i number now now put p_below below
    (λ capacity used are. are)
    (λ capacity used are flags chips rows here.
    none_bit_put now slots flags capacity used stride chips c p (at + i) are rows here below none p_below inside
    ∙ ap (λ b. set (chips_of (spread now slots stride) flags stride chips) c
    (with_memory_bit (get_or (chips_of (spread now slots stride) flags stride chips) c []) p (at + i) b)) (sym is))
    refl

-- the same by other names of the address and the count
pub retold_put : (words slots : List ℕ) (stride c p at there i count number : ℕ) (now : List ℕ)
    → ArePut words slots stride c p at i number now → at ≡ there → i ≡ count
    → ArePut words slots stride c p there count number now
retold_put words slots stride c p at there i count number now put at_is i_is =
    subst (λ (n : ℕ). ArePut words slots stride c p there n number now) i_is
    (subst (λ (n : ℕ). ArePut words slots stride c p n i number now) at_is put)

-- all rows before and after so many bits of a number went into a field
abbrev pub IsFieldPut : List ℕ → List ℕ → ℕ → ℕ → ℕ → ℕ → ℕ → ℕ → Type 0
IsFieldPut old new stride c p at count number = (flags : List ℕ) (chips : ℕ) → AreRows old flags stride chips → c < chips
    → chips_of new flags stride chips ≡ set (chips_of old flags stride chips) c
    (with_memory_field (get_or (chips_of old flags stride chips) c []) p at count number)

-- the next sixteen bits of a number are the lowest of what is left of it
pub next_bits : (number i rest k : ℕ) → rest ≡ number / 2 ^ i → k < 16 → bit (rest % 65536) k ≡ bit number (i + k)
next_bits number i rest k is below =
    ap (λ (n : ℕ). n == 1) (bit_at-cut rest 16 k below)
    ∙ ap (λ (n : ℕ). bit n k) is
    ∙ ap (λ (n : ℕ). n % 2 == 1)
    (div-div-eq-div-mul number (2 ^ i) (2 ^ k) ∙ ap (λ (n : ℕ). number / n) (sym (pow-add 2 i k)))

pub bits_left : (number i rest : ℕ) → rest ≡ number / 2 ^ i → rest / 65536 ≡ number / 2 ^ (i + 16)
bits_left number i rest is =
    ap (λ (n : ℕ). n / 65536) is
    ∙ div-div-eq-div-mul number (2 ^ i) (2 ^ 16)
    ∙ ap (λ (n : ℕ). number / n) (sym (pow-add 2 i 16))

-- one more bit where its address is named
pub slot_put_at : (words slots : List ℕ) (stride c p at i number : ℕ) (now : List ℕ) (index word address : ℕ)
    → ArePut words slots stride c p at i number now
    → p < 16 → address ≡ at + i → address < 4096 → c < stride → 0 < get_or slots address 0
    → index ≡ get_or slots address 0 * stride + c
    → IsPlane word (λ q. if q == p then bit number i else bit (get_or now index 0) q)
    → ArePut words slots stride c p at (i + 1) number (set now index word)
slot_put_at words slots stride c p at i number now index word address put p_below address_is below inside own place is =
    slot_put words slots stride c p at i number now index word put p_below (omega (arith, address_is, below)) inside
    (subst (λ (n : ℕ). 0 < get_or slots n 0) address_is own)
    (place ∙ ap (λ (n : ℕ). get_or slots n 0 * stride + c) address_is) is

-- the words from a place on, of which one is put in place of another
pub column_set : (words : List ℕ) (place count i word : ℕ) → place + count ≡ length words
    → put_mid place count words (set (take count (drop place words)) i word) ≡ set words (i + place) word
column_set words place count i word is =
    let long : length (drop place words) ≡ count = omega (arith, length-drop place words, is) in
    let all : take count (drop place words) ≡ drop place words =
    take_all count (drop place words) (omega (arith, long)) in
    let none : drop count (drop place words) ≡ [] = drop_all count (drop place words) (omega (arith, long)) in
    let front : length (take place words) ≡ place = omega (arith, is, length-take place words) in
    let there : i + place - place ≡ i = omega arith in
    (λ j. take place words ++ (set (all j) i word ++ none j))
    ∙ ap (λ (xs : List ℕ). take place words ++ xs) (append-nil (set (drop place words) i word))
    ∙ ap (λ (n : ℕ). take place words ++ set (drop place words) n word) (sym there)
    ∙ sym (set-append_right (take place words) (drop place words) place (i + place) word front (omega arith))
    ∙ ap (λ (xs : List ℕ). set xs (i + place) word) (take-append-drop place words)

-- one of them
pub get_or-column : (words : List ℕ) (place count i : ℕ) → place + count ≡ length words
    → get_or (take count (drop place words)) i 0 ≡ get_or words (i + place) 0
get_or-column words place count i is =
    let long : length (drop place words) ≡ count = omega (arith, length-drop place words, is) in
    ap (λ (xs : List ℕ). get_or xs i 0) (take_all count (drop place words) (omega (arith, long)))
    ∙ get_or-drop place words i 0
    ∙ ap (λ (n : ℕ). get_or words n 0) (omega arith)
