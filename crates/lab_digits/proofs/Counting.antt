-- A text has no more lines than bytes.
use Rattle.std.proofs.Common.{◌≡◌, ℕ, ◌+◌, ◌≤◌, true, false, List, [], ◌∷◌, length, ap, arith, ⊎_elim}
use Rattle.std.specs.List.{slice_split, onto_first}
use Rattle.std.proofs.lemmas.List.Splits.{slice_split-cons_yes, slice_split-cons_no}
use Rattle.std.proofs.lemmas.Bool.{cases_Bool}
use Rattle.cm_bits.specs.Text.{lines_of, is_line_end, without_empty_last}

new_line : (parts : List (List ℕ)) → length (without_empty_last ([] ∷ parts)) ≤ length (without_empty_last parts) + 1
new_line [] = omega arith
new_line (part ∷ parts) = omega arith

longer_line : (byte : ℕ) (parts : List (List ℕ))
    → length (without_empty_last (onto_first byte parts)) ≤ length (without_empty_last parts) + 1
longer_line byte [] = omega arith
longer_line byte (part ∷ []) = omega arith
longer_line byte (part ∷ next ∷ parts) = omega arith

pub few_lines : (text : List ℕ) → length (lines_of text) ≤ length text
few_lines [] = omega arith
few_lines (byte ∷ bytes) =
    ⊎_elim
    (λ (e : is_line_end byte ≡ true).
    omega (
      arith,
      ap (λ parts. length (without_empty_last parts)) (slice_split-cons_yes is_line_end byte bytes e),
      new_line (slice_split is_line_end bytes),
      few_lines bytes,
    ))
    (λ (e : is_line_end byte ≡ false).
    omega (
      arith,
      ap (λ parts. length (without_empty_last parts)) (slice_split-cons_no is_line_end byte bytes e),
      longer_line byte (slice_split is_line_end bytes),
      few_lines bytes,
    ))
    (cases_Bool (is_line_end byte))
