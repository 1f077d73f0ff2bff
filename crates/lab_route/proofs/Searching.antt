-- What is looked for chip by chip, from the first on.
use Rattle.std.proofs.Common.{◌≡◌, ℕ, suc, ◌+◌, ◌-◌, ◌<◌, List, [], ◌∷◌, ◌++◌, Some, None, refl, ◌∙◌, ap, arith}
use Rattle.std.specs.Prelude.{slice_get}
use Rattle.std.specs.List.{flat_map, range_with_len}

-- the numbers from one on are that one and the next ones
range-next : (c count : ℕ) → c < count → range_with_len c (count - c) ≡ c ∷ range_with_len (c + 1) (count - (c + 1))
range-next c count l = let one : count - c ≡ suc (count - (c + 1)) = omega arith in ap (range_with_len c) one

-- where the first list is empty
first_of_second : {Y : Type 0} (xs ys : List Y) → slice_get xs 0 ≡ None → slice_get (xs ++ ys) 0 ≡ slice_get ys 0
first_of_second [] ys e = refl
first_of_second (x ∷ xs) ys e = absurd cc

-- where it is not
first_of_first : {Y : Type 0} (xs ys : List Y) (y : Y) → slice_get xs 0 ≡ Some y → slice_get (xs ++ ys) 0 ≡ Some y
first_of_first [] ys y e = absurd cc
first_of_first (x ∷ xs) ys y e = e

-- a number gives none, so the next ones are looked at
pub first_next : {Y : Type 0} (f : ℕ → List Y) (c count : ℕ) → c < count → slice_get (f c) 0 ≡ None
    → slice_get (flat_map f (range_with_len c (count - c))) 0
    ≡ slice_get (flat_map f (range_with_len (c + 1) (count - (c + 1)))) 0
first_next {Y} f c count l e =
    ap (λ (cs : List ℕ). slice_get (flat_map f cs) 0) (range-next c count l)
    ∙ first_of_second (f c) (flat_map f (range_with_len (c + 1) (count - (c + 1)))) e

-- it gives one
pub first_here : {Y : Type 0} (f : ℕ → List Y) (c count : ℕ) (y : Y) → c < count → slice_get (f c) 0 ≡ Some y
    → slice_get (flat_map f (range_with_len c (count - c))) 0 ≡ Some y
first_here {Y} f c count y l e =
    ap (λ (cs : List ℕ). slice_get (flat_map f cs) 0) (range-next c count l)
    ∙ first_of_first (f c) (flat_map f (range_with_len (c + 1) (count - (c + 1)))) y e
