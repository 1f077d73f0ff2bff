-- The lines that tell a chip, one more at a time.
use Rattle.std.proofs.Common.{◌≡◌, ℕ, ◌+◌, List, [], ◌∷◌, ◌++◌, flat_map, sym, ap, ◌∙◌, arith, append-nil, append_assoc}
use Rattle.std.proofs.Common.{map-id}
use Rattle.std.specs.List.{range_with_len}
use Rattle.std.proofs.lemmas.List.FromFn.{map-range_with_len_more}
use Rattle.std.proofs.lemmas.Grind.{flat_map-append}
use Rattle.cm_tools.specs.ChipText.{lines_below}

range_more : (n : ℕ) → range_with_len 0 (n + 1) ≡ range_with_len 0 n ++ n ∷ []
range_more n =
    sym (map-id (range_with_len 0 (n + 1))) ∙ map-range_with_len_more (λ (i : ℕ). i) 0 n n (omega arith)
    ∙ ap (λ (xs : List ℕ). xs ++ n ∷ []) (map-id (range_with_len 0 n))

-- no line of no numbers
pub lines_below-zero : (text : List ℕ) (line : ℕ → List ℕ) → text ≡ text ++ lines_below 0 line
unfolding lines_below
lines_below-zero text line = sym (append-nil text)

-- the next line
pub lines_below-more : (text : List ℕ) (count : ℕ) (line : ℕ → List ℕ)
    → (text ++ lines_below count line) ++ line count ≡ text ++ lines_below (count + 1) line
unfolding lines_below
lines_below-more text count line =
    append_assoc text (flat_map line (range_with_len 0 count)) (line count)
    ∙ ap (λ (xs : List ℕ). text ++ xs)
    (ap (λ (xs : List ℕ). flat_map line (range_with_len 0 count) ++ xs) (sym (append-nil (line count)))
    ∙ sym (flat_map-append line (range_with_len 0 count) (count ∷ []))
    ∙ ap (flat_map line) (sym (range_more count)))
