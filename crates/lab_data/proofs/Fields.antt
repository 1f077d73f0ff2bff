-- A number that is put into a field bit by bit.
use Rattle.std.proofs.Common.{◌≡◌, ℕ, suc, ◌+◌, ◌-◌, ◌<◌, Bool, false, List, [], ◌∷◌, ◌++◌, length, take, drop, get_or, set}
use Rattle.std.proofs.Common.{sym, ap, ◌∙◌, arith, append_assoc, get_or-set_same}
use Rattle.std.proofs.Math.Seq.{drop-cons}
use Rattle.std.proofs.lemmas.List.{length-take-le, set-append_right, set-get_or, set-set, take-append-drop}
use Rattle.std.proofs.lemmas.List.FromFn.{map-range_with_len_more}
use Rattle.cm_bits.specs.Bit.{bit}
use Rattle.cm_model.specs.Processor.{Processor}
use Rattle.cm_model.specs.Chip.{no_processor, with_memory_bit}
use Rattle.cm_model.specs.Letters.{bits_of, with_field}
use Rattle.cm_model.specs.Whole.{IsChip}
use Rattle.cm_model.specs.Array.{Chips, chip_at}
use Rattle.cm_model.proofs.Wholes.{length-bits_of}
use Rattle.cm_element.specs.Wide.{with_memory_field}

-- what stands behind so many bits, with the next bit in front
next_bit : (bits rest : List Bool) (old new : Bool) (i : ℕ) → length bits ≡ i
    → set (bits ++ old ∷ rest) i new ≡ (bits ++ new ∷ []) ++ rest
next_bit bits rest old new i long =
    set-append_right bits (old ∷ rest) i i new long (omega arith)
    ∙ ap (λ (k : ℕ). bits ++ set (old ∷ rest) k new) (let none : i - i ≡ 0 = omega arith in none)
    ∙ sym (append_assoc bits (new ∷ []) rest)

-- one more bit of a field
with_field-more : (memory : List Bool) (at i number : ℕ) → at + i < length memory
    → set (with_field memory at i number) (at + i) (bit number i) ≡ with_field memory at (i + 1) number
unfolding with_field
with_field-more memory at i number inside =
    let first : length (take at memory) ≡ at = length-take-le at memory (omega arith) in
    let next : suc (at + i) ≡ at + (i + 1) = omega arith in
    let place : at + i - at ≡ i = omega arith in
    ap (λ rest. set (take at memory ++ (bits_of i number ++ rest)) (at + i) (bit number i))
    (drop-cons memory (at + i) false inside)
    ∙ set-append_right (take at memory) (bits_of i number
    ++ (get_or memory (at + i) false ∷ drop (suc (at + i)) memory)) at (at + i) (bit number i) first (omega arith)
    ∙ ap (λ (k : ℕ). take at memory
    ++ set (bits_of i number ++ (get_or memory (at + i) false ∷ drop (suc (at + i)) memory)) k (bit number i)) place
    ∙ ap (λ bs. take at memory ++ bs)
    (next_bit (bits_of i number) (drop (suc (at + i)) memory) (get_or memory (at + i) false) (bit number i) i
    (length-bits_of i number)
    ∙ ap (λ bs. bs ++ drop (suc (at + i)) memory) (sym (map-range_with_len_more (bit number) 0 i i (omega arith)))
    ∙ ap (λ (k : ℕ). bits_of (i + 1) number ++ drop k memory) next)

-- none of a number's bits leave all chips as they are
pub no_bits_yet : (chips : Chips) (c p at number : ℕ)
    → chips ≡ set chips c (with_memory_field (chip_at chips c) p at 0 number)
unfolding with_memory_field with_field
no_bits_yet chips c p at number =
    let chip : List Processor = chip_at chips c in
    let memory : List Bool = (get_or chip p no_processor).memory in
    let here : at + 0 ≡ at = omega arith in
    let same : take at memory ++ drop (at + 0) memory ≡ memory =
    ap (λ (k : ℕ). take at memory ++ drop k memory) here ∙ take-append-drop at memory in
    sym ((λ j. set chips c (set chip p (record (get_or chip p no_processor) { memory = same j })))
    ∙ ap (set chips c) (set-get_or chip p no_processor) ∙ set-get_or chips c [])

-- one more bit of a number in a chip
one_more_in_chip : (chip : List Processor) (p at i number : ℕ) → IsChip chip → p < 16 → at + i < 4096
    → with_memory_bit (with_memory_field chip p at i number) p (at + i) (bit number i)
    ≡ with_memory_field chip p at (i + 1) number
unfolding with_memory_field with_memory_bit
one_more_in_chip chip p at i number whole below within =
    let old : Processor = get_or chip p no_processor in
    let new : Processor = record old { memory = with_field old.memory at i number } in
    let there : get_or (set chip p new) p no_processor ≡ new =
    get_or-set_same chip p new no_processor (omega (arith, whole.count, below)) in
    set-set chip p new (record (get_or (set chip p new) p no_processor) {
      memory = set (get_or (set chip p new) p no_processor).memory (at + i) (bit number i);
    })
    ∙ ap (λ (v : Processor). set chip p (record v { memory = set v.memory (at + i) (bit number i) })) there
    ∙ (λ j. set chip p (record old {
      memory = with_field-more old.memory at i number (omega (arith, within, (whole.each p below).memory)) j;
    }))

-- the same in a chip of many
pub one_more_bit : (chips : Chips) (c p at i number : ℕ) → c < length chips → IsChip (chip_at chips c) → p < 16
    → at + i < 4096
    → set (set chips c (with_memory_field (chip_at chips c) p at i number)) c
    (with_memory_bit (chip_at (set chips c (with_memory_field (chip_at chips c) p at i number)) c) p (at + i)
    (bit number i))
    ≡ set chips c (with_memory_field (chip_at chips c) p at (i + 1) number)
one_more_bit chips c p at i number here whole below within =
    set-set chips c (with_memory_field (chip_at chips c) p at i number)
    (with_memory_bit (chip_at (set chips c (with_memory_field (chip_at chips c) p at i number)) c) p (at + i)
    (bit number i))
    ∙ ap (λ chip. set chips c (with_memory_bit chip p (at + i) (bit number i)))
    (get_or-set_same chips c (with_memory_field (chip_at chips c) p at i number) [] here)
    ∙ ap (set chips c) (one_more_in_chip (chip_at chips c) p at i number whole below within)
