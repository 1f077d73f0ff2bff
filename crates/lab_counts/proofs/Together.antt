-- What is known by chip and what is known by dimension, each together: more of both.
use Rattle.std.proofs.Common.{◌≡◌, ℕ, zero, suc, ◌+◌, ◌-◌, ◌^◌, ◌<◌, ◌≤◌, min, List, [], ◌∷◌, length, get_or, fold}
use Rattle.std.proofs.Common.{replicate, sum_by, refl, sym, ap, ◌∙◌, arith}
use Rattle.std.proofs.lemmas.List.{length-set}
use Rattle.std.proofs.lemmas.List.Sums.{sum_by-cons, sum_by-set, get_or-le-sum_by}
use Rattle.cm_model.specs.declared.message.Message.{Message}
use Rattle.cm_model.specs.Array.{nth_or_nil}
use Rattle.cm_model.specs.Wiring.{Routing, way_of}
use Rattle.cm_model.specs.Machine.{Machine}
use Rattle.lab_counts.specs.declared.crossings.Crossings.{Crossings}
use Rattle.lab_counts.specs.Chips.{chips_to, chips_through}
use Rattle.lab_counts.specs.Crossings.{no_crossings, capped_sum, crossings_added, in_all, crossings_at, crossings_to}
use Rattle.lab_counts.specs.Crossings.{machine_before, crossings_in, with_crossings, crossings_through}

-- ---- one of the three numbers

module _ (f : Crossings → ℕ) (none : f no_crossings ≡ 0)
    (adds : (a b : Crossings) → f (crossings_added a b) ≡ capped_sum (f a) (f b)) where
  fold_sum : (a : Crossings) (xs : List Crossings) → f a ≤ 2 ^ 64 - 1
      → f (fold crossings_added a xs) ≡ min (f a + sum_by f xs) (2 ^ 64 - 1)
  fold_sum a [] h = omega (arith, h)
  fold_sum a (x ∷ xs) h =
      let next : f (crossings_added a x) ≡ min (f a + f x) (2 ^ 64 - 1) = adds a x in
      fold_sum (crossings_added a x) xs (omega (arith, next)) ∙ omega (arith, next, sum_by-cons f x xs)

  pub all_sum : (xs : List Crossings) → f (in_all xs) ≡ min (sum_by f xs) (2 ^ 64 - 1)
  all_sum xs = fold_sum no_crossings xs (omega (arith, none)) ∙ omega (arith, none)

  pub number_added : (xs : List Crossings) (k : ℕ) (more : Crossings) → k < length xs
      → f (in_all (with_crossings xs k more)) ≡ capped_sum (f (in_all xs)) (f more)
  number_added xs k more below =
      let entry = get_or xs k no_crossings in
      let here : f (crossings_added entry more) ≡ min (f entry + f more) (2 ^ 64 - 1) = adds entry more in
      let capped : f (in_all (with_crossings xs k more)) ≡ min (f (in_all xs) + f more) (2 ^ 64 - 1) =
      omega (
        arith,
        all_sum (with_crossings xs k more),
        all_sum xs,
        here,
        sum_by-set f xs k (crossings_added entry more) no_crossings below,
        get_or-le-sum_by f xs k no_crossings below,
      ) in
      capped

-- ---- all three

-- more of one number is more of all together
pub all_added : (xs : List Crossings) (k : ℕ) (more : Crossings) → k < length xs
    → in_all (with_crossings xs k more) ≡ crossings_added (in_all xs) more
all_added xs k more below = λ i. record {
  crossed = number_added (λ x. x.crossed) refl (λ a b. refl) xs k more below i;
  referred = number_added (λ x. x.referred) refl (λ a b. refl) xs k more below i;
  refused = number_added (λ x. x.refused) refl (λ a b. refl) xs k more below i;
}

added_twice : (a b c : ℕ) → capped_sum (capped_sum a b) c ≡ capped_sum a (capped_sum b c)
added_twice a b c =
    let is : min (min (a + b) (2 ^ 64 - 1) + c) (2 ^ 64 - 1) ≡ min (a + min (b + c) (2 ^ 64 - 1)) (2 ^ 64 - 1) =
    omega arith in
    is

crossings_added_twice : (a b c : Crossings)
    → crossings_added (crossings_added a b) c ≡ crossings_added a (crossings_added b c)
crossings_added_twice a b c = λ i. record {
  crossed = added_twice a.crossed b.crossed c.crossed i;
  referred = added_twice a.referred b.referred c.referred i;
  refused = added_twice a.refused b.refused c.refused i;
}

none_added : (x y : ℕ) → x ≡ min y (2 ^ 64 - 1) → x ≡ capped_sum x 0
none_added x y is = let same : x ≡ min (x + 0) (2 ^ 64 - 1) = omega (arith, is) in same

-- where nothing is added nothing changes
no_crossings_added : (xs : List Crossings) → in_all xs ≡ crossings_added (in_all xs) no_crossings
no_crossings_added xs = λ i. record {
  crossed = none_added (in_all xs).crossed _ (all_sum (λ x. x.crossed) refl (λ a b. refl) xs) i;
  referred = none_added (in_all xs).referred _ (all_sum (λ x. x.referred) refl (λ a b. refl) xs) i;
  refused = none_added (in_all xs).refused _ (all_sum (λ x. x.refused) refl (λ a b. refl) xs) i;
}

-- of what is blank nothing is known
pub none_together : (count : ℕ) → in_all (replicate count no_crossings) ≡ no_crossings
none_together zero = refl
none_together (suc count) = none_together count

-- ---- one dimension

length-chips_to : (routing : Routing) (cap d : ℕ) (buffers : List (List Message)) (chips : List Crossings) (c : ℕ)
    → length (chips_to routing cap d buffers chips c) ≡ length chips
unfolding chips_to
length-chips_to routing cap d buffers chips zero = refl
length-chips_to routing cap d buffers chips (suc c) =
    length-set (chips_to routing cap d buffers chips c) c _ ∙ length-chips_to routing cap d buffers chips c

chips_to-added : (routing : Routing) (cap d : ℕ) (buffers : List (List Message)) (chips : List Crossings) (c : ℕ)
    → c ≤ length chips
    → in_all (chips_to routing cap d buffers chips c)
    ≡ crossings_added (in_all chips) (crossings_to routing cap d buffers c)
unfolding chips_to crossings_to
chips_to-added routing cap d buffers chips zero within = no_crossings_added chips
chips_to-added routing cap d buffers chips (suc c) within =
    let here = crossings_at (way_of routing c d) cap d (nth_or_nil buffers c) in
    all_added (chips_to routing cap d buffers chips c) c here
    (omega (arith, within, length-chips_to routing cap d buffers chips c))
    ∙ (ap (λ (x : Crossings). crossings_added x here) (chips_to-added routing cap d buffers chips c (omega (arith, within)))
    ∙ crossings_added_twice (in_all chips) (crossings_to routing cap d buffers c) here)

-- ---- a petit cycle

pub length-chips_through : (n cap : ℕ) (m : Machine) (chips : List Crossings) (d : ℕ)
    → length (chips_through n cap m chips d) ≡ length chips
unfolding chips_through
length-chips_through n cap m chips zero = refl
length-chips_through n cap m chips (suc d) =
    length-chips_to m.routing cap d (machine_before n cap m d).buffers (chips_through n cap m chips d) (2 ^ n)
    ∙ length-chips_through n cap m chips d

pub length-crossings_through : (n cap : ℕ) (m : Machine) (dims : List Crossings) (d : ℕ)
    → length (crossings_through n cap m dims d) ≡ length dims
unfolding crossings_through
length-crossings_through n cap m dims zero = refl
length-crossings_through n cap m dims (suc d) =
    length-set (crossings_through n cap m dims d) d _ ∙ length-crossings_through n cap m dims d

-- by chip and by dimension the same is known together
pub chips_through-together : (n cap : ℕ) (m : Machine) (dims chips : List Crossings) (d : ℕ) → d ≤ length dims
    → 2 ^ n ≤ length chips → in_all chips ≡ in_all dims
    → in_all (chips_through n cap m chips d) ≡ in_all (crossings_through n cap m dims d)
unfolding chips_through crossings_through
chips_through-together n cap m dims chips zero within all same = same
chips_through-together n cap m dims chips (suc d) within all same =
    chips_to-added m.routing cap d (machine_before n cap m d).buffers (chips_through n cap m chips d) (2 ^ n)
    (omega (arith, all, length-chips_through n cap m chips d))
    ∙ (ap (λ (x : Crossings). crossings_added x (crossings_in n cap m d))
    (chips_through-together n cap m dims chips d (omega (arith, within)) all same)
    ∙ sym (all_added (crossings_through n cap m dims d) d (crossings_in n cap m d)
    (omega (arith, within, length-crossings_through n cap m dims d))))
