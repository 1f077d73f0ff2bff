-- Lists that are made or written element by element, and rows that are lent.
use Rattle.std.proofs.Common.{◌≡◌, ◌≢◌, ℕ, suc, ◌<◌, ◌==◌, true, false, List, [], ◌∷◌, map, length, get_or, set, ◌+◌}
use Rattle.std.proofs.Common.{◌≤◌, ◌++◌, take, Result, Ok, Err, OnErr}
use Rattle.std.proofs.Common.{refl, sym, ap, ◌∙◌, subst, arith, ⊎_elim, get_or-set_same, get_or-set_other}
use Rattle.std.proofs.lemmas.Bool.{cases_Bool, eqb-true, eqb-false}
use Rattle.std.proofs.Math.Seq.{take-append_seam}
use Rattle.std.proofs.lemmas.List.{with_items_is, take-take, length-append}
use Rattle.std.specs.List.{range_with_len}
use Rattle.std.specs.Vec.{with_items}
use Rattle.std.specs.Global.{Vec}
use Rattle.cm_model.specs.Each.{tabulate}

-- what holds of each element and of the new one holds of each after the write
pub each_after_set : {X : Type 0} (P : X → Type 0) (xs : List X) (d : X) (i : ℕ) (x : X) (count : ℕ) → length xs ≡ count
    → ((k : ℕ) → k < count → P (get_or xs k d)) → P x → (k : ℕ) → k < count → P (get_or (set xs i x) k d)
each_after_set P xs d i x count long each new k below =
    ⊎_elim
    (λ (e : (k == i) ≡ true).
    let here : i ≡ k = sym (eqb-true k i e) in
    let inside : i < length xs = omega arith in
    subst (λ (j : ℕ). P (get_or (set xs i x) j d)) here (subst P (sym (get_or-set_same xs i x d inside)) new))
    (λ (e : (k == i) ≡ false).
    let other : k ≢ i = eqb-false k i e in
    subst P (sym (get_or-set_other xs i k x d other)) (each k below))
    (cases_Bool (k == i))

-- where a reading of each element is alike, the readings are one for each number, from any number on
alike-after : {X Y : Type 0} (read : X → Y) (y : Y) (xs : List X) (first : ℕ)
    → ((k : ℕ) (d : X) → k < length xs → read (get_or xs k d) ≡ y)
    → map read xs ≡ map (λ (c : ℕ). y) (range_with_len first (length xs))
alike-after read y [] first each = refl
alike-after read y (x ∷ xs) first each =
    λ i. each 0 x (omega arith) i
    ∷ alike-after read y xs (first + 1) (λ k d below. each (suc k) d (omega (arith, below))) i

-- the same, from 0 on
pub readings-alike : {X Y : Type 0} (read : X → Y) (y : Y) (xs : List X) (count : ℕ) → length xs ≡ count
    → ((k : ℕ) (d : X) → k < length xs → read (get_or xs k d) ≡ y) → map read xs ≡ tabulate 0 count (λ c. y)
unfolding tabulate
readings-alike read y xs count long each = alike-after read y xs 0 each
    ∙ ap (λ (n : ℕ). map (λ (c : ℕ). y) (range_with_len 0 n)) long

-- where a reading of each element is the same, so are the readings
pub same_readings : {X Y : Type 0} (read : X → Y) (xs ys : List X) → length xs ≡ length ys
    → ((k : ℕ) (d : X) → k < length xs → read (get_or xs k d) ≡ read (get_or ys k d)) → map read xs ≡ map read ys
same_readings read [] [] long each = refl
same_readings read [] (y ∷ ys) long each = absurd (omega (arith, long))
same_readings read (x ∷ xs) [] long each = absurd (omega (arith, long))
same_readings read (x ∷ xs) (y ∷ ys) long each =
    λ i. each 0 x (omega arith) i
    ∷ same_readings read xs ys (omega (arith, long)) (λ k d below. each (suc k) d (omega (arith, below))) i

-- a row whose slice was lent whole has what was written to the slice
pub items-lent : {X : Type 0} (row : Vec X) (now : List X) → length now ≡ length row.items
    → (with_items row now).items ≡ now
items-lent row now same = with_items_is row now (same ∙ sym row.ok.0)

-- what stands in front of more, and stays in front of a list after a refusal where both did
pub kept_in_front : {R E A : Type 0} → (front more now : List A) → (r : Result R E)
    → OnErr r (take (length (front ++ more)) now ≡ front ++ more) → OnErr r (take (length front) now ≡ front)
kept_in_front front more now (Ok x) h = tt
kept_in_front front more now (Err e) h =
    let long : length (front ++ more) ≡ length front + length more = length-append front more in
    let within : length front ≤ length (front ++ more) = omega arith in
    sym (take-take (length front) (length (front ++ more)) now within)
    ∙ ap (take (length front)) h
    ∙ take-append_seam front more
