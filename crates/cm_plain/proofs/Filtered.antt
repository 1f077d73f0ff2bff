-- Lists that a loop makes by pushes of some of the numbers, or of all elements of a list.
use Rattle.std.proofs.Common.{◌≡◌, ℕ, ◌+◌, Bool, true, false, List, [], ◌∷◌, ◌++◌, cond, append_assoc, refl, sym, ap}
use Rattle.std.proofs.Common.{◌∙◌, arith}
use Rattle.std.proofs.lemmas.List.{append-nil}
use Rattle.std.proofs.lemmas.List.Elements.{filter-append}
use Rattle.std.specs.List.{filter, range_with_len}
use Rattle.std.proofs.lemmas.List.FromFn.{map-range_with_len_more}
use Rattle.cm_bits.specs.Bit.{bit}
use Rattle.cm_model.specs.Letters.{bits_of}
use Rattle.cm_model.proofs.Cycles.{range-more}

-- those of one number more that pass
filter-more : (p : ℕ → Bool) (n : ℕ)
    → filter p (range_with_len 0 (n + 1)) ≡ filter p (range_with_len 0 n) ++ cond (p n) (n ∷ []) []
filter-more p n =
    ap (filter p) (range-more 0 n)
    ∙ (filter-append p (range_with_len 0 n) ((0 + n) ∷ [])
    ∙ ap (λ (j : ℕ). filter p (range_with_len 0 n) ++ cond (p j) (j ∷ []) []) (let same : 0 + n ≡ n = omega arith in
    same))

-- a number that passes is pushed
pub filtered_in : (p : ℕ → Bool) (n x : ℕ) (before after : List ℕ) → before ≡ filter p (range_with_len 0 n)
    → after ≡ before ++ x ∷ [] → x ≡ n → p n ≡ true → after ≡ filter p (range_with_len 0 (n + 1))
filtered_in p n x before after grown is number passes = is ∙ (λ i. grown i ++ number i ∷ [])
    ∙ sym (filter-more p n ∙ rw passes refl)

-- one that does not is left out
pub filtered_out : (p : ℕ → Bool) (n : ℕ) (before : List ℕ) → before ≡ filter p (range_with_len 0 n) → p n ≡ false
    → before ≡ filter p (range_with_len 0 (n + 1))
filtered_out p n before grown fails =
    grown ∙ sym (filter-more p n ∙ rw fails (append-nil (filter p (range_with_len 0 n))))

-- the bits of a number behind a list, and one more
pub bits_grown : (front before after : List Bool) (number place : ℕ) (b : Bool)
    → before ≡ front ++ bits_of place number → after ≡ before ++ b ∷ [] → b ≡ bit number place
    → after ≡ front ++ bits_of (place + 1) number
bits_grown front before after number place b grown is last =
    is ∙ (λ i. grown i ++ last i ∷ [])
    ∙ append_assoc front (bits_of place number) (bit number place ∷ [])
    ∙ ap (λ z. front ++ z) (sym (map-range_with_len_more (bit number) 0 place place (omega arith)))
