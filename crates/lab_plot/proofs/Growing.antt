-- A list that grows at its end: what one number more gives, and what one item more gives.
use Rattle.std.proofs.Common.{◌≡◌, ℕ, ◌+◌, List, [], ◌∷◌, ◌++◌, sym, ap, ◌∙◌, arith}
use Rattle.std.proofs.Common.{append_assoc, append-nil, map-id}
use Rattle.std.specs.List.{flat_map, range_with_len}
use Rattle.std.proofs.lemmas.List.FromFn.{map-range_with_len_more}
use Rattle.std.proofs.lemmas.Grind.{flat_map-append}

range-more : (first count : ℕ)
    → range_with_len first (count + 1) ≡ range_with_len first count ++ (first + count) ∷ []
range-more first count =
    sym (map-id (range_with_len first (count + 1))) ∙ map-range_with_len_more (λ k. k) first count (first + count) (omega arith)
    ∙ ap (λ ks. ks ++ (first + count) ∷ []) (map-id (range_with_len first count))

-- what is made of one number more
pub number-more : {X : Type 0} (f : ℕ → List X) (start before after : List X) (first count k : ℕ) → k ≡ first + count
    → before ≡ start ++ flat_map f (range_with_len first count) → after ≡ before ++ f k
    → after ≡ start ++ flat_map f (range_with_len first (count + 1))
number-more f start before after first count k is so_far more =
    let made = flat_map f (range_with_len first count) in
    more ∙ ap (λ xs. xs ++ f k) so_far ∙ append_assoc start made (f k)
    ∙ ap (λ (j : ℕ). start ++ (made ++ f j)) is
    ∙ ap (λ xs. start ++ (made ++ xs)) (sym (append-nil (f (first + count))))
    ∙ ap (λ xs. start ++ xs) (sym (flat_map-append f (range_with_len first count) ((first + count) ∷ [])))
    ∙ ap (λ ks. start ++ flat_map f ks) (sym (range-more first count))

-- the same from 0 on
pub next-more : {X : Type 0} (f : ℕ → List X) (start before after : List X) (k : ℕ)
    → before ≡ start ++ flat_map f (range_with_len 0 k) → after ≡ before ++ f k
    → after ≡ start ++ flat_map f (range_with_len 0 (k + 1))
next-more f start before after k so_far more = number-more f start before after 0 k k (omega arith) so_far more
