-- Where the message of a tag is found, there it is.
use Rattle.std.proofs.Common.{◌≡◌, ℕ, zero, suc, ◌+◌, ◌<◌, ◌≤◌, ◌^◌, Bool, true, false, List, [], ◌∷◌, ◌++◌}
use Rattle.std.proofs.Common.{Option, Some, None, refl, sym, ◌∙◌, ap, ⊎_elim, arith}
use Rattle.std.proofs.lemmas.Bool.{cases_Bool, cases_eq, or_parts}
use Rattle.std.proofs.lemmas.List.Elements.{All-nil, All-cons}
use Rattle.std.proofs.lemmas.List.Folds.{Any-from_list_any}
use Rattle.std.specs.List.{All, Any, flat_map, filter_map, cons_option, find, list_any, range_with_len}
use Rattle.cm_bits.specs.declared.place.Place.{Place}
use Rattle.cm_model.specs.declared.message.Tag.{Tag}
use Rattle.cm_model.specs.Array.{nth_or_nil}
use Rattle.cm_model.specs.Machine.{Machine}
use Rattle.cm_model.specs.Found.{same_tag, router_of, delivery_place, delivery_places}
use Rattle.cm_model.specs.Found.{found_from, found_in, IsWhereabouts}

-- ---- the routers

-- the first number of a range that passes, if one does
abbrev IsFirstOf : (ℕ → Bool) → ℕ → ℕ → Option ℕ → Type 0
IsFirstOf t a k None = (c : ℕ) → a ≤ c → c < a + k → t c ≡ false
IsFirstOf t a k (Some c) = (a ≤ c) × (c < a + k) × (t c ≡ true)

wider : (t : ℕ → Bool) (a k : ℕ) (o : Option ℕ) → t a ≡ false → IsFirstOf t (a + 1) k o → IsFirstOf t a (suc k) o
wider t a k None e h =
    λ c l m. ⊎_elim (λ (s : a ≡ c). ap t (sym s) ∙ e) (λ (s : a ≡ c → ⊥). h c (omega (arith, s)) (omega arith))
    (cases_eq a c)
wider t a k (Some c) e h = (omega (arith, h.0), omega (arith, h.1), h.2)

find_in_range : (t : ℕ → Bool) (a k : ℕ) → IsFirstOf t a k (find t (range_with_len a k))
find_in_range t a zero = λ c l m. absurd (omega arith)
find_in_range t a (suc k) =
    ⊎_elim (λ (e : t a ≡ true). rw e (omega arith, omega arith, e))
    (λ (e : t a ≡ false). rw e (wider t a k (find t (range_with_len (a + 1) k)) e (find_in_range t (a + 1) k)))
    (cases_Bool (t a))

none_of : {X : Type 0} (p : X → Bool) (xs : List X) → list_any p xs ≡ false → All (λ x. p x ≡ false) xs
none_of p [] e = All-nil (λ x. p x ≡ false)
none_of p (x ∷ xs) e =
    let parts = or_parts (p x) (list_any p xs) e in
    All-cons (λ y. p y ≡ false) x xs parts.0 (none_of p xs parts.1)

-- ---- the logs

first_of_more : {X Y : Type 0} (h : X → Option Y) (x : X) (xs : List X) (y : Y) (rest : List Y) (o : Option Y)
    → h x ≡ o → cons_option o (filter_map h xs) ≡ y ∷ rest →
    (filter_map h xs ≡ y ∷ rest → Any (λ z. h z ≡ Some y) xs) → Any (λ z. h z ≡ Some y) (x ∷ xs)
first_of_more h x xs y rest None s f ih = let there = ih f in
    (suc there.0, there.1, omega (arith, there.2), there.3, there.4)
first_of_more h x xs y rest (Some z) s f ih = let same : z ≡ y = cc in
    (0, x, omega arith, refl, s ∙ ap (λ w. Some w) same)

first_of_filter : {X Y : Type 0} (h : X → Option Y) (xs : List X) (y : Y) (rest : List Y) → filter_map h xs ≡ y ∷ rest
    → Any (λ x. h x ≡ Some y) xs
first_of_filter h [] y rest e = absurd cc
first_of_filter h (x ∷ xs) y rest e = first_of_more h x xs y rest (h x) refl e (first_of_filter h xs y rest)

none_of_more : {X Y : Type 0} (h : X → Option Y) (x : X) (xs : List X) (o : Option Y) → h x ≡ o
    → cons_option o (filter_map h xs) ≡ [] →
    (filter_map h xs ≡ [] → All (λ z. h z ≡ None) xs) → All (λ z. h z ≡ None) (x ∷ xs)
none_of_more h x xs None s f ih = All-cons (λ z. h z ≡ None) x xs s (ih f)
none_of_more h x xs (Some z) s f ih = absurd cc

none_of_filter : {X Y : Type 0} (h : X → Option Y) (xs : List X) → filter_map h xs ≡ [] → All (λ x. h x ≡ None) xs
none_of_filter h [] e = All-nil (λ x. h x ≡ None)
none_of_filter h (x ∷ xs) e = none_of_more h x xs (h x) refl e (none_of_filter h xs)

-- the first of what many chips give is the first of what one of them gives
abbrev IsFrom : {Y : Type 0} → (ℕ → List Y) → ℕ → ℕ → Y → Type 0
IsFrom {Y} f a k y = (b : ℕ) × (b < a + k) × (rest : List Y) × (f b ≡ y ∷ rest)

first_of_next : {Y : Type 0} (f : ℕ → List Y) (a k : ℕ) (y : Y) (rest : List Y) (xs : List Y) → f a ≡ xs
    → xs ++ flat_map f (range_with_len (a + 1) k) ≡ y ∷ rest →
    (flat_map f (range_with_len (a + 1) k) ≡ y ∷ rest → IsFrom f (a + 1) k y) → IsFrom f a (suc k) y
first_of_next f a k y rest [] s g ih = let there = ih g in (there.0, omega (arith, there.1), there.2, there.3)
first_of_next f a k y rest (x ∷ xs) s g ih = let same : x ≡ y = cc in (a, omega arith, xs, s ∙ ap (λ z. z ∷ xs) same)

first_of_chips : {Y : Type 0} (f : ℕ → List Y) (a k : ℕ) (y : Y) (rest : List Y)
    → flat_map f (range_with_len a k) ≡ y ∷ rest → IsFrom f a k y
first_of_chips f a zero y rest e = absurd cc
first_of_chips f a (suc k) y rest e = first_of_next f a k y rest (f a) refl e (first_of_chips f (a + 1) k y rest)

none_of_next : {Y : Type 0} (f : ℕ → List Y) (a k c : ℕ) (xs : List Y) → f a ≡ xs
    → xs ++ flat_map f (range_with_len (a + 1) k) ≡ [] → a ≤ c → c < a + suc k →
    (flat_map f (range_with_len (a + 1) k) ≡ [] → a + 1 ≤ c → c < (a + 1) + k → f c ≡ []) → f c ≡ []
none_of_next f a k c [] s g l m ih =
    ⊎_elim (λ (t : a ≡ c). ap f (sym t) ∙ s) (λ (t : a ≡ c → ⊥). ih g (omega (arith, t)) (omega arith)) (cases_eq a c)
none_of_next f a k c (x ∷ xs) s g l m ih = absurd cc

none_of_chips : {Y : Type 0} (f : ℕ → List Y) (a k : ℕ) → flat_map f (range_with_len a k) ≡ [] → (c : ℕ) → a ≤ c
    → c < a + k → f c ≡ []
none_of_chips f a zero e c l m = absurd (omega arith)
none_of_chips f a (suc k) e c l m = none_of_next f a k c (f a) refl e l m (λ g. none_of_chips f (a + 1) k g c)

-- ---- both

-- the test whether a message of a tag stands at a chip
abbrev stands_there : Machine → Tag → ℕ → Bool
stands_there machine tag c = list_any (λ m. same_tag m.tag tag) (nth_or_nil machine.buffers c)

found_there : (n : ℕ) (machine : Machine) (tag : Tag) (o : Option ℕ) (places : List Place)
    → IsFirstOf (stands_there machine tag) 0 (2 ^ n) o → delivery_places n machine tag ≡ places →
    IsWhereabouts n machine tag (found_from o places)
found_there n machine tag (Some c) places h e =
    (omega (arith, h.1), Any-from_list_any (λ m. same_tag m.tag tag) (nth_or_nil machine.buffers c) h.2)
found_there n machine tag None (place ∷ places) h e =
    let found = first_of_chips (λ c. filter_map (delivery_place tag) (nth_or_nil machine.logs c)) 0 (2 ^ n) place places e
    in (
      found.0,
      omega (arith, found.1),
      first_of_filter (delivery_place tag) (nth_or_nil machine.logs found.0) place found.2 found.3,
    )
found_there n machine tag None [] h e =
    λ c l. record {
      stands = none_of (λ m. same_tag m.tag tag) (nth_or_nil machine.buffers c) (h c (omega arith) (omega arith));
      delivered = none_of_filter (delivery_place tag) (nth_or_nil machine.logs c)
          (none_of_chips (λ b. filter_map (delivery_place tag) (nth_or_nil machine.logs b)) 0 (2 ^ n) e c (omega arith)
          (omega arith));
    }

pub messages_are_found : (n : ℕ) (machine : Machine) (tag : Tag) → IsWhereabouts n machine tag (found_in n machine tag)
unfolding found_in
messages_are_found n machine tag =
    found_there n machine tag (router_of n machine tag) (delivery_places n machine tag)
    (find_in_range (stands_there machine tag) 0 (2 ^ n)) refl
