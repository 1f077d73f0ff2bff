-- Sorting by since: what a filter, an append, a first and a last make of it.
use Rattle.std.proofs.Common.{◌≡◌, ◌+◌, Bool, true, false, List, [], ◌∷◌, ◌++◌, length, Option, Some, None, refl}
use Rattle.std.proofs.Common.{sym, ◌∙◌, ap, ⊎_elim, arith}
use Rattle.std.proofs.lemmas.Bool.{cases_Bool}
use Rattle.std.proofs.lemmas.Bool.Decides.{nat_tests}
use Rattle.std.specs.List.{filter}
use Rattle.cm_model.specs.Router.{Since, Standing, is_before, same_since, first_by_rule, foremost, last_by_rule, hindmost}
use Rattle.cm_model.specs.declared.rule.Rule.TheVariants.{First}
use Rattle.cm_model.specs.Order.{put, in_order}

-- ---- the laws of before

pub before_itself : (s : Since) → is_before s s ≡ false
before_itself s = grind (arith, nat_tests)

pub not_both_before : (s t : Since) → is_before s t ≡ true → is_before t s ≡ false
not_both_before s t h = grind (arith, nat_tests)

pub before_transitive : (s t u : Since) → is_before s t ≡ true → is_before t u ≡ true → is_before s u ≡ true
before_transitive s t u h k = grind (arith, nat_tests)

pub not_before_transitive : (s t u : Since) → is_before t s ≡ false → is_before u t ≡ false → is_before u s ≡ false
not_before_transitive s t u h k = grind (arith, nat_tests)

pub same_not_before : (s t : Since) → is_before s t ≡ true → same_since s t ≡ false
same_not_before s t h = grind (arith, nat_tests)

pub same_not_after : (s t : Since) → is_before s t ≡ true → same_since t s ≡ false
same_not_after s t h = grind (arith, nat_tests)

pub same_itself : (s : Since) → same_since s s ≡ true
same_itself s = grind (arith, nat_tests)

-- ---- lists all before a time, none before a time, sorted, rising

-- each is before this time
abbrev pub AllBefore : Since → List Standing → Type 0
AllBefore s [] = Unit {0}
AllBefore s (r ∷ rs) = (is_before r.since s ≡ true) × AllBefore s rs

-- each is after this time
abbrev pub AllAfter : Since → List Standing → Type 0
AllAfter s [] = Unit {0}
AllAfter s (r ∷ rs) = (is_before s r.since ≡ true) × AllAfter s rs

-- none is before this time
abbrev pub NoneBefore : Since → List Standing → Type 0
NoneBefore s [] = Unit {0}
NoneBefore s (r ∷ rs) = (is_before r.since s ≡ false) × NoneBefore s rs

-- none before an earlier one
abbrev pub IsSorted : List Standing → Type 0
IsSorted [] = Unit {0}
IsSorted (r ∷ rs) = NoneBefore r.since rs × IsSorted rs

-- each after all earlier ones
abbrev pub IsRising : List Standing → Type 0
IsRising [] = Unit {0}
IsRising (r ∷ rs) = AllAfter r.since rs × IsRising rs

pub none_before_later : (s t : Since) (xs : List Standing) → is_before t s ≡ false → NoneBefore t xs → NoneBefore s xs
none_before_later s t [] h k = tt
none_before_later s t (x ∷ xs) h k = (not_before_transitive s t x.since h k.0, none_before_later s t xs h k.1)

pub NoneBefore-put : (s : Since) (r : Standing) (xs : List Standing) → is_before r.since s ≡ false → NoneBefore s xs
    → NoneBefore s (put r xs)
NoneBefore-put s r [] h k = (h, tt)
NoneBefore-put s r (x ∷ xs) h k =
    ⊎_elim (λ (e : is_before x.since r.since ≡ true). rw e (k.0, NoneBefore-put s r xs h k.1))
    (λ (e : is_before x.since r.since ≡ false). rw e (h, k)) (cases_Bool (is_before x.since r.since))

pub IsSorted-put : (r : Standing) (xs : List Standing) → IsSorted xs → IsSorted (put r xs)
IsSorted-put r [] k = (tt, tt)
IsSorted-put r (x ∷ xs) k =
    ⊎_elim (λ (e : is_before x.since r.since ≡ true). rw e
    (NoneBefore-put x.since r xs (not_both_before x.since r.since e) k.0, IsSorted-put r xs k.1))
    (λ (e : is_before x.since r.since ≡ false). rw e ((e, none_before_later r.since x.since xs e k.0), k))
    (cases_Bool (is_before x.since r.since))

pub IsSorted-in_order : (xs : List Standing) → IsSorted (in_order xs)
IsSorted-in_order [] = tt
IsSorted-in_order (x ∷ xs) = IsSorted-put x (in_order xs) (IsSorted-in_order xs)

pub put_front : (r : Standing) (xs : List Standing) → NoneBefore r.since xs → put r xs ≡ r ∷ xs
put_front r [] h = refl
put_front r (x ∷ xs) h = let e = h.0 in rw e refl

pub NoneBefore-filter : (p : Standing → Bool) (s : Since) (xs : List Standing) → NoneBefore s xs
    → NoneBefore s (filter p xs)
NoneBefore-filter p s [] h = tt
NoneBefore-filter p s (x ∷ xs) h =
    ⊎_elim (λ (e : p x ≡ true). rw e (h.0, NoneBefore-filter p s xs h.1))
    (λ (e : p x ≡ false). rw e (NoneBefore-filter p s xs h.1)) (cases_Bool (p x))

-- ---- a filter of a sorted list

pub filter-put_yes : (p : Standing → Bool) (r : Standing) (xs : List Standing) → IsSorted xs → p r ≡ true
    → filter p (put r xs) ≡ put r (filter p xs)
filter-put_yes p r [] s e = rw e refl
filter-put_yes p r (x ∷ xs) s e =
    ⊎_elim
    (λ (b : is_before x.since r.since ≡ true).
    ⊎_elim (λ (t : p x ≡ true). rw (b, t, b) (ap (λ z. x ∷ z) (filter-put_yes p r xs s.1 e)))
    (λ (t : p x ≡ false). rw (b, t) (filter-put_yes p r xs s.1 e)) (cases_Bool (p x)))
    (λ (b : is_before x.since r.since ≡ false).
    let front : NoneBefore r.since (x ∷ xs) = (b, none_before_later r.since x.since xs b s.0) in
    rw (b, e) (sym (put_front r (filter p (x ∷ xs)) (NoneBefore-filter p r.since (x ∷ xs) front))))
    (cases_Bool (is_before x.since r.since))

pub filter-put_no : (p : Standing → Bool) (r : Standing) (xs : List Standing) → p r ≡ false
    → filter p (put r xs) ≡ filter p xs
filter-put_no p r [] e = rw e refl
filter-put_no p r (x ∷ xs) e =
    ⊎_elim
    (λ (b : is_before x.since r.since ≡ true).
    ⊎_elim (λ (t : p x ≡ true). rw (b, t) (ap (λ z. x ∷ z) (filter-put_no p r xs e)))
    (λ (t : p x ≡ false). rw (b, t) (filter-put_no p r xs e)) (cases_Bool (p x)))
    (λ (b : is_before x.since r.since ≡ false). rw (b, e) refl)
    (cases_Bool (is_before x.since r.since))

-- a filter of a sorted list is the sorted filter
pub filter-in_order : (p : Standing → Bool) (xs : List Standing) → filter p (in_order xs) ≡ in_order (filter p xs)
filter-in_order p [] = refl
filter-in_order p (x ∷ xs) =
    ⊎_elim (λ (e : p x ≡ true). filter-put_yes p x (in_order xs) (IsSorted-in_order xs) e
    ∙ rw e (ap (put x) (filter-in_order p xs)))
    (λ (e : p x ≡ false). filter-put_no p x (in_order xs) e ∙ rw e (filter-in_order p xs)) (cases_Bool (p x))

-- ---- sorting what is appended

pub put-append : (r : Standing) (xs ys : List Standing) → NoneBefore r.since ys → put r (xs ++ ys) ≡ put r xs ++ ys
put-append r [] ys h = put_front r ys h
put-append r (x ∷ xs) ys h =
    ⊎_elim (λ (e : is_before x.since r.since ≡ true). rw e (ap (λ z. x ∷ z) (put-append r xs ys h)))
    (λ (e : is_before x.since r.since ≡ false). rw e refl) (cases_Bool (is_before x.since r.since))

pub put_last : (r : Standing) (xs ys : List Standing) → AllBefore r.since xs → put r (xs ++ ys) ≡ xs ++ put r ys
put_last r [] ys h = refl
put_last r (x ∷ xs) ys h = let e = h.0 in rw e (ap (λ z. x ∷ z) (put_last r xs ys h.1))

pub none_before_from_all_after : (s : Since) (xs : List Standing) → AllAfter s xs → NoneBefore s xs
none_before_from_all_after s [] h = tt
none_before_from_all_after s (x ∷ xs) h = (not_both_before s x.since h.0, none_before_from_all_after s xs h.1)

pub in_order-rising : (xs : List Standing) → IsRising xs → in_order xs ≡ xs
in_order-rising [] h = refl
in_order-rising (x ∷ xs) h = ap (put x) (in_order-rising xs h.1)
    ∙ put_front x xs (none_before_from_all_after x.since xs h.0)

-- each of the first list is before each of the second
abbrev pub Precedes : List Standing → List Standing → Type 0
Precedes [] ys = Unit {0}
Precedes (x ∷ xs) ys = AllAfter x.since ys × Precedes xs ys

-- a set with rising later records: they stand last, as they come
pub in_order-append : (xs ys : List Standing) → IsRising ys → Precedes xs ys → in_order (xs ++ ys) ≡ in_order xs ++ ys
in_order-append [] ys h k = in_order-rising ys h
in_order-append (x ∷ xs) ys h k =
    ap (put x) (in_order-append xs ys h k.1) ∙ put-append x (in_order xs) ys (none_before_from_all_after x.since ys k.0)

-- ---- the first and the last

-- the first of a list, if there is one
abbrev pub first_of_list : List Standing → Option Standing
first_of_list [] = None
first_of_list (x ∷ xs) = Some x

-- the last of a list, if there is one
abbrev pub last_of_list : List Standing → Option Standing
last_of_list [] = None
last_of_list (x ∷ []) = Some x
last_of_list (x ∷ (y ∷ ys)) = last_of_list (y ∷ ys)

first-put : (r : Standing) (xs : List Standing) → first_of_list (put r xs) ≡ Some (first_by_rule First r (first_of_list xs))
first-put r [] = refl
first-put r (x ∷ xs) =
    ⊎_elim (λ (e : is_before x.since r.since ≡ true). rw e refl)
    (λ (e : is_before x.since r.since ≡ false). rw e refl) (cases_Bool (is_before x.since r.since))

-- the earliest record is the first in order
pub earliest_is : (xs : List Standing) → foremost First xs ≡ first_of_list (in_order xs)
earliest_is [] = refl
earliest_is (x ∷ xs) = ap (λ o. Some (first_by_rule First x o)) (earliest_is xs) ∙ sym (first-put x (in_order xs))

last-cons_put : (x r : Standing) (xs : List Standing) → last_of_list (x ∷ put r xs) ≡ last_of_list (put r xs)
last-cons_put x r [] = refl
last-cons_put x r (y ∷ ys) =
    ⊎_elim (λ (e : is_before y.since r.since ≡ true). rw e refl)
    (λ (e : is_before y.since r.since ≡ false). rw e refl) (cases_Bool (is_before y.since r.since))

-- where none is before r, the last is not either
later_than_none : (r x : Standing) (xs : List Standing) → NoneBefore r.since (x ∷ xs)
    → last_of_list (x ∷ xs) ≡ Some (last_by_rule First r (last_of_list (x ∷ xs)))
later_than_none r x [] h = let e = h.0 in rw e refl
later_than_none r x (y ∷ ys) h = later_than_none r y ys h.1

last-put : (r : Standing) (xs : List Standing) → IsSorted xs
    → last_of_list (put r xs) ≡ Some (last_by_rule First r (last_of_list xs))
last-put r [] s = refl
last-put r (x ∷ []) s =
    ⊎_elim (λ (e : is_before x.since r.since ≡ true). rw e refl)
    (λ (e : is_before x.since r.since ≡ false). rw e refl) (cases_Bool (is_before x.since r.since))
last-put r (x ∷ (y ∷ ys)) s =
    ⊎_elim (λ (e : is_before x.since r.since ≡ true). rw e (last-cons_put x r (y ∷ ys) ∙ last-put r (y ∷ ys) s.1))
    (λ (e : is_before x.since r.since ≡ false). rw e
    (later_than_none r x (y ∷ ys) (e, none_before_later r.since x.since (y ∷ ys) e s.0)))
    (cases_Bool (is_before x.since r.since))

-- the latest record is the last in order
pub latest_is : (xs : List Standing) → hindmost First xs ≡ last_of_list (in_order xs)
latest_is [] = refl
latest_is (x ∷ xs) = ap (λ o. Some (last_by_rule First x o)) (latest_is xs) ∙ sym (last-put x (in_order xs) (IsSorted-in_order xs))

-- ---- sorting keeps the elements

pub length-put : (r : Standing) (xs : List Standing) → length (put r xs) ≡ length (r ∷ xs)
length-put r [] = refl
length-put r (x ∷ xs) =
    ⊎_elim (λ (e : is_before x.since r.since ≡ true). rw e (let ih = length-put r xs in omega arith))
    (λ (e : is_before x.since r.since ≡ false). rw e refl) (cases_Bool (is_before x.since r.since))

pub length-in_order : (xs : List Standing) → length (in_order xs) ≡ length xs
length-in_order [] = refl
length-in_order (x ∷ xs) = length-put x (in_order xs) ∙ (let ih = length-in_order xs in omega arith)
