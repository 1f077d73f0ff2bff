-- One element more of what is made of a list.
use Rattle.std.proofs.Common.{◌≡◌, ℕ, ◌+◌, ◌<◌, List, [], ◌∷◌, ◌++◌, length, get_or, take, map, fold, sum_by, refl, sym, ap, ◌∙◌, arith}
use Rattle.std.proofs.Common.{◌≤◌, append_assoc, map-id, ⊎_elim}
use Rattle.std.specs.List.{flat_map, range_with_len}
use Rattle.std.proofs.lemmas.List.FromFn.{map-range_with_len_more}
use Rattle.std.proofs.lemmas.List.{append-nil, get_or_append_left, get_or_push, length_push, take_more}
use Rattle.std.proofs.lemmas.Bool.{cases_lt}
use Rattle.std.proofs.lemmas.List.Concat.{flat_map-append}
use Rattle.std.proofs.lemmas.List.Sums.{sum_by-append}

next : {X : Type 0} (xs : List X) (i : ℕ) (x : X) → i < length xs → x ≡ get_or xs i x
    → take (i + 1) xs ≡ take i xs ++ x ∷ []
next {X} xs i x h read = take_more xs i x h ∙ ap (λ (y : X). take i xs ++ y ∷ []) (sym read)

pub sum_more : {X : Type 0} (f : X → ℕ) (xs : List X) (i : ℕ) (x : X) → i < length xs → x ≡ get_or xs i x
    → sum_by f (take (i + 1) xs) ≡ sum_by f (take i xs) + f x
sum_more f xs i x h read =
    ap (sum_by f) (next xs i x h read) ∙ (sum_by-append f (take i xs) (x ∷ []) ∙ omega arith)

pub made_more : {X : Type 0} (g : X → List ℕ) (xs : List X) (i : ℕ) (x : X) → i < length xs → x ≡ get_or xs i x
    → flat_map g (take (i + 1) xs) ≡ flat_map g (take i xs) ++ g x
made_more g xs i x h read =
    ap (flat_map g) (next xs i x h read)
    ∙ (flat_map-append g (take i xs) (x ∷ []) ∙ ap (λ (ys : List ℕ). flat_map g (take i xs) ++ ys) (append-nil (g x)))

-- what is made of what is seen of each
pub flat_map-map : {X Y : Type 0} (g : Y → List ℕ) (f : X → Y) (xs : List X)
    → flat_map g (map f xs) ≡ flat_map (λ x. g (f x)) xs
flat_map-map g f [] = refl
flat_map-map g f (x ∷ xs) = ap (λ (ys : List ℕ). g (f x) ++ ys) (flat_map-map g f xs)

fold-map : {X Y : Type 0} (h : ℕ → Y → ℕ) (f : X → Y) (a : ℕ) (xs : List X)
    → fold h a (map f xs) ≡ fold (λ b x. h b (f x)) a xs
fold-map h f a [] = refl
fold-map h f a (x ∷ xs) = fold-map h f (h a (f x)) xs

pub sum_by-map : {X Y : Type 0} (g : Y → ℕ) (f : X → Y) (xs : List X) → sum_by g (map f xs) ≡ sum_by (λ x. g (f x)) xs
sum_by-map g f xs = fold-map (λ a y. a + g y) f 0 xs

range-more : (count : ℕ) → range_with_len 0 (count + 1) ≡ range_with_len 0 count ++ count ∷ []
range-more count =
    sym (map-id (range_with_len 0 (count + 1))) ∙ map-range_with_len_more (λ k. k) 0 count count (omega arith)
    ∙ ap (λ (ks : List ℕ). ks ++ count ∷ []) (map-id (range_with_len 0 count))

-- what is made of one number more
pub number_more : (f : ℕ → List ℕ) (start before after : List ℕ) (k : ℕ)
    → before ≡ start ++ flat_map f (range_with_len 0 k) → after ≡ before ++ f k
    → after ≡ start ++ flat_map f (range_with_len 0 (k + 1))
number_more f start before after k so_far more =
    let made = flat_map f (range_with_len 0 k) in
    more ∙ ap (λ (xs : List ℕ). xs ++ f k) so_far ∙ append_assoc start made (f k)
    ∙ ap (λ (xs : List ℕ). start ++ (made ++ xs)) (sym (append-nil (f k)))
    ∙ ap (λ (xs : List ℕ). start ++ xs) (sym (flat_map-append f (range_with_len 0 k) (k ∷ [])))
    ∙ ap (λ (ks : List ℕ). start ++ flat_map f ks) (sym (range-more k))

-- a list with one more at its end, of which each is so
pub each_pushed : {X : Type 0} (P : ℕ → X → Type 0) (xs ys : List X) (x : X) (count : ℕ) → length xs ≡ count
    → ys ≡ xs ++ x ∷ [] → P count x → ((k : ℕ) (d : X) → k < length xs → P k (get_or xs k d))
    → (k : ℕ) (d : X) → k < length ys → P k (get_or ys k d)
each_pushed P xs ys x count long is last before k d below =
    let all : length ys ≡ length xs + 1 = ap length is ∙ length_push xs x in
    ⊎_elim
    (λ (l : k < length xs). rw (is, get_or_append_left xs (x ∷ []) d k l) (before k d l))
    (λ (m : length xs ≤ k). let here : count ≡ k = omega arith in
    rw (is, get_or_push xs x d k (long ∙ here), sym here) last)
    (cases_lt k (length xs))
