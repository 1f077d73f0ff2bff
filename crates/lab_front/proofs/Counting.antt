-- A line has no more words than bytes.
use Rattle.std.proofs.Common.{◌≡◌, ℕ, ◌+◌, ◌≤◌, true, false, List, [], ◌∷◌, length, ap, arith, ⊎_elim}
use Rattle.std.specs.List.{filter, slice_split, onto_first}
use Rattle.std.proofs.lemmas.List.Splits.{slice_split-cons_yes, slice_split-cons_no}
use Rattle.std.proofs.lemmas.Bool.{cases_Bool}
use Rattle.cm_bits.specs.Text.{has_bytes, is_blank, words_in}

longer_word : (byte : ℕ) (parts : List (List ℕ))
    → length (filter has_bytes (onto_first byte parts)) ≤ length (filter has_bytes parts) + 1
longer_word byte [] = omega arith
longer_word byte ([] ∷ parts) = omega arith
longer_word byte ((first ∷ part) ∷ parts) = omega arith

pub few_words : (bytes : List ℕ) → length (words_in bytes) ≤ length bytes
few_words [] = omega arith
few_words (byte ∷ bytes) =
    ⊎_elim
    (λ (e : is_blank byte ≡ true).
    omega (
      arith,
      ap (λ parts. length (filter has_bytes parts)) (slice_split-cons_yes is_blank byte bytes e),
      few_words bytes,
    ))
    (λ (e : is_blank byte ≡ false).
    omega (
      arith,
      ap (λ parts. length (filter has_bytes parts)) (slice_split-cons_no is_blank byte bytes e),
      longer_word byte (slice_split is_blank bytes),
      few_words bytes,
    ))
    (cases_Bool (is_blank byte))
