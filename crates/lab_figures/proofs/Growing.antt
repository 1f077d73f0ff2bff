-- A list that grows at its end, item by item.
use Rattle.std.proofs.Common.{◌≡◌, ℕ, ◌+◌, List, [], ◌∷◌, ◌++◌, map, sym, ap, ◌∙◌, append_assoc, arith}
use Rattle.std.proofs.Common.{map-id}
use Rattle.std.specs.List.{range_with_len, flat_map}
use Rattle.std.proofs.lemmas.List.{flat_map_more}
use Rattle.std.proofs.lemmas.List.FromFn.{map-range_with_len_more}

-- one more number of those that a function gives
pub each_more : {X : Type 0} (f : ℕ → X) (start before after : List X) (i : ℕ) (x : X)
    → before ≡ start ++ map f (range_with_len 0 i) → after ≡ before ++ x ∷ [] → x ≡ f i
    → after ≡ start ++ map f (range_with_len 0 (i + 1))
each_more f start before after i x so_far more is =
    more ∙ (λ j. so_far j ++ is j ∷ [])
    ∙ append_assoc start (map f (range_with_len 0 i)) (f i ∷ [])
    ∙ ap (λ xs. start ++ xs) (sym (map-range_with_len_more f 0 i i (omega arith)))

range_more : (i : ℕ) → range_with_len 0 (i + 1) ≡ range_with_len 0 i ++ i ∷ []
range_more i =
    sym (map-id (range_with_len 0 (i + 1))) ∙ map-range_with_len_more (λ (k : ℕ). k) 0 i i (omega arith)
    ∙ ap (λ (xs : List ℕ). xs ++ i ∷ []) (map-id (range_with_len 0 i))

-- one more part of those that a function gives
pub part_more : {X : Type 0} (f : ℕ → List X) (start before after : List X) (i : ℕ)
    → before ≡ start ++ flat_map f (range_with_len 0 i) → after ≡ before ++ f i
    → after ≡ start ++ flat_map f (range_with_len 0 (i + 1))
part_more f start before after i so_far more =
    more ∙ ap (λ xs. xs ++ f i) so_far ∙ flat_map_more f start (range_with_len 0 i) i
    ∙ ap (λ (xs : List ℕ). start ++ flat_map f xs) (sym (range_more i))
