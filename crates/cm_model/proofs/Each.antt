-- Lists that a function of the number makes: their length, what is read of them, when two are one.
use Rattle.std.proofs.Common.{◌≡◌, ℕ, ◌+◌, ◌<◌, List, length, get_or, map, refl, sym, ◌∙◌, arith, ext_get_or}
use Rattle.std.specs.List.{range_with_len}
use Rattle.std.proofs.lemmas.Simd.{map-map}
use Rattle.std.proofs.lemmas.List.FromFn.{length-map-range_with_len, get_or-map-range_with_len}
use Rattle.cm_model.specs.Each.{tabulate}

-- as many as were asked for
pub length-tabulate : {X : Type 0} (first count : ℕ) (f : ℕ → X) → length (tabulate first count f) ≡ count
unfolding tabulate
length-tabulate first count f = length-map-range_with_len f first count

-- the element at an index is what the function gives for that number
pub get_or-tabulate : {X : Type 0} (first count : ℕ) (f : ℕ → X) (i : ℕ) (d : X) → i < count
    → get_or (tabulate first count f) i d ≡ f (first + i)
unfolding tabulate
get_or-tabulate first count f i d h = get_or-map-range_with_len f first count i (first + i) d h refl

-- the same, where the numbers begin at 0
pub get_or-each_below : {X : Type 0} (count : ℕ) (f : ℕ → X) (i : ℕ) (d : X) → i < count
    → get_or (tabulate 0 count f) i d ≡ f i
unfolding tabulate
get_or-each_below count f i d h = get_or-map-range_with_len f 0 count i i d h (omega arith)

-- two functions that agree on the numbers make one list
pub same_each : {X : Type 0} (d : X) (first count : ℕ) (f g : ℕ → X)
    → ((i : ℕ) → i < count → f (first + i) ≡ g (first + i)) → tabulate first count f ≡ tabulate first count g
same_each d first count f g same =
    ext_get_or d (tabulate first count f) (tabulate first count g)
    (length-tabulate first count f ∙ sym (length-tabulate first count g))
    (λ i h. let below : i < count = omega (arith, length-tabulate first count f) in
    get_or-tabulate first count f i d below ∙ same i below ∙ sym (get_or-tabulate first count g i d below))

-- the same, where the numbers begin at 0
pub same_each_below : {X : Type 0} (d : X) (count : ℕ) (f g : ℕ → X) → ((i : ℕ) → i < count → f i ≡ g i)
    → tabulate 0 count f ≡ tabulate 0 count g
same_each_below d count f g same =
    ext_get_or d (tabulate 0 count f) (tabulate 0 count g)
    (length-tabulate 0 count f ∙ sym (length-tabulate 0 count g))
    (λ i h. let below : i < count = omega (arith, length-tabulate 0 count f) in
    get_or-each_below count f i d below ∙ same i below ∙ sym (get_or-each_below count g i d below))

-- a list that reads as the function at each index is the list that it makes
pub is_each : {X : Type 0} (d : X) (count : ℕ) (f : ℕ → X) (xs : List X) → length xs ≡ count
    → ((i : ℕ) → i < count → get_or xs i d ≡ f i) → xs ≡ tabulate 0 count f
is_each d count f xs long reads =
    ext_get_or d xs (tabulate 0 count f) (long ∙ sym (length-tabulate 0 count f))
    (λ i h. let below : i < count = omega (arith, long) in
    reads i below ∙ sym (get_or-each_below count f i d below))

-- what is made of each of them is made by the two functions one after the other
pub map-tabulate : {X Y : Type 0} (h : X → Y) (first count : ℕ) (f : ℕ → X)
    → map h (tabulate first count f) ≡ tabulate first count (λ k. h (f k))
unfolding tabulate
map-tabulate h first count f = map-map h f (range_with_len first count)
