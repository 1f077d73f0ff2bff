-- The leaver is who the words of its rule say it is.
use Rattle.std.proofs.Common.{◌≡◌, ℕ, zero, suc, ◌<◌, Bool, true, false, cond, eqb, List, [], ◌∷◌, length, get_or}
use Rattle.std.proofs.Common.{Option, Some, None, refl, sym, ap, subst, ⊎_elim, inl, inr, arith}
use Rattle.std.proofs.lemmas.Bool.{cases_Bool, cond_both, eqb-true, eqb-false, both_ways}
use Rattle.std.proofs.lemmas.Bool.Decides.{nat_tests}
use Rattle.std.proofs.lemmas.List.Elements.{All-nil, All-cons, All-contains}
use Rattle.std.specs.List.{All, Contains, filter}
use Rattle.std.specs.Option.{option_or}
use Rattle.cm_model.specs.declared.rule.Rule.{Rule}
use Rattle.cm_model.specs.Wiring.{Way}
use Rattle.cm_model.specs.Router.{Since, Standing, same_since, has_to_cross, standing_at, crossing, goes_before, first_by_rule}
use Rattle.cm_model.specs.Router.{foremost, last_by_rule, hindmost, referred, chosen, leaver}
use Rattle.cm_model.specs.Leaver.{GoesFirst, GoesLast, IsReferred, IsChosen, IsLeaver, SincesDiffer}
use Rattle.cm_model.proofs.Preferring.{goes_before-itself, not_both_go_before, not_going_before-transitive}
use Rattle.cm_model.proofs.Preferring.{neither_goes_before}

contains_first : (x : Standing) (xs : List Standing) → Contains (x ∷ xs) x
contains_first x xs = (0, omega arith, refl)

contains_later : (x r : Standing) (xs : List Standing) → Contains xs r → Contains (x ∷ xs) r
contains_later x r xs h = (suc h.0, omega (arith, h.1), h.2)

-- none of these goes before this one
abbrev NoneAhead : Rule → Standing → List Standing → Type 0
NoneAhead rule r [] = Unit {0}
NoneAhead rule r (x ∷ xs) = (goes_before rule x r ≡ false) × NoneAhead rule r xs

all_none_ahead : (rule : Rule) (r : Standing) (xs : List Standing) → NoneAhead rule r xs
    → All (λ q. goes_before rule q r ≡ false) xs
all_none_ahead rule r [] h = All-nil (λ (q : Standing). goes_before rule q r ≡ false)
all_none_ahead rule r (x ∷ xs) h =
    All-cons (λ q. goes_before rule q r ≡ false) x xs h.0 (all_none_ahead rule r xs h.1)

none_ahead_later : (rule : Rule) (r q : Standing) (xs : List Standing) → goes_before rule q r ≡ false
    → NoneAhead rule q xs → NoneAhead rule r xs
none_ahead_later rule r q [] h k = tt
none_ahead_later rule r q (x ∷ xs) h k =
    (not_going_before-transitive rule r q x h k.0, none_ahead_later rule r q xs h k.1)

-- this one goes before none of these
abbrev NoneBehind : Rule → Standing → List Standing → Type 0
NoneBehind rule r [] = Unit {0}
NoneBehind rule r (x ∷ xs) = (goes_before rule r x ≡ false) × NoneBehind rule r xs

all_none_behind : (rule : Rule) (r : Standing) (xs : List Standing) → NoneBehind rule r xs
    → All (λ q. goes_before rule r q ≡ false) xs
all_none_behind rule r [] h = All-nil (λ (q : Standing). goes_before rule r q ≡ false)
all_none_behind rule r (x ∷ xs) h =
    All-cons (λ q. goes_before rule r q ≡ false) x xs h.0 (all_none_behind rule r xs h.1)

none_behind_later : (rule : Rule) (r q : Standing) (xs : List Standing) → goes_before rule r q ≡ false
    → NoneBehind rule q xs → NoneBehind rule r xs
none_behind_later rule r q [] h k = tt
none_behind_later rule r q (x ∷ xs) h k =
    (not_going_before-transitive rule x q r k.0 h, none_behind_later rule r q xs h k.1)

-- what is known of who goes first of a list, if it is not empty
abbrev IsFirst : Rule → List Standing → Option Standing → Type 0
IsFirst rule xs None = xs ≡ []
IsFirst rule xs (Some r) = Contains xs r × NoneAhead rule r xs

first_of_more : (rule : Rule) (x : Standing) (xs : List Standing) (o : Option Standing) → IsFirst rule xs o
    → IsFirst rule (x ∷ xs) (Some (first_by_rule rule x o))
first_of_more rule x xs None h =
    subst (λ (z : List Standing). IsFirst rule (x ∷ z) (Some x)) (sym h)
    (contains_first x [], (goes_before-itself rule x, tt))
first_of_more rule x xs (Some q) h =
    cond_both (goes_before rule q x) q x (λ (r : Standing). IsFirst rule (x ∷ xs) (Some r))
    (λ e. (contains_later x q xs h.0, (not_both_go_before rule q x e, h.1)))
    (λ e. (contains_first x xs, (goes_before-itself rule x, none_ahead_later rule x q xs e h.1)))

foremost_is_first : (rule : Rule) (xs : List Standing) → IsFirst rule xs (foremost rule xs)
foremost_is_first rule [] = refl
foremost_is_first rule (x ∷ xs) = first_of_more rule x xs (foremost rule xs) (foremost_is_first rule xs)

abbrev IsLast : Rule → List Standing → Option Standing → Type 0
IsLast rule xs None = xs ≡ []
IsLast rule xs (Some r) = Contains xs r × NoneBehind rule r xs

last_of_more : (rule : Rule) (x : Standing) (xs : List Standing) (o : Option Standing) → IsLast rule xs o
    → IsLast rule (x ∷ xs) (Some (last_by_rule rule x o))
last_of_more rule x xs None h =
    subst (λ (z : List Standing). IsLast rule (x ∷ z) (Some x)) (sym h)
    (contains_first x [], (goes_before-itself rule x, tt))
last_of_more rule x xs (Some q) h =
    cond_both (goes_before rule q x) x q (λ (r : Standing). IsLast rule (x ∷ xs) (Some r))
    (λ e. (
      contains_first x xs,
      (
        goes_before-itself rule x,
        none_behind_later rule x q xs (not_both_go_before rule q x e) h.1,
      ),
    ))
    (λ e. (contains_later x q xs h.0, (e, h.1)))

hindmost_is_last : (rule : Rule) (xs : List Standing) → IsLast rule xs (hindmost rule xs)
hindmost_is_last rule [] = refl
hindmost_is_last rule (x ∷ xs) = last_of_more rule x xs (hindmost rule xs) (hindmost_is_last rule xs)

-- who is referred where none has to cross
referred_is_chosen : (rule : Rule) (cap : ℕ) (crossers here : List Standing) → crossers ≡ [] → (o : Option Standing)
    → IsLast rule here o → IsChosen rule cap crossers here (cond (eqb (length here) cap) o None)
referred_is_chosen rule cap crossers here none o h =
    ⊎_elim
    (λ (e : eqb (length here) cap ≡ true). rw e (at_full (eqb-true (length here) cap e) o h))
    (λ (e : eqb (length here) cap ≡ false). rw e
    (record { none_crosses = none; not_full = λ full. absurd (eqb-false (length here) cap e full) }))
    (cases_Bool (eqb (length here) cap))
  where
    at_full : length here ≡ cap → (l : Option Standing) → IsLast rule here l → IsChosen rule cap crossers here l
    at_full full None k = record { none_crosses = none; not_full = λ f. k }
    at_full full (Some r) k =
        inr (record {
          none_crosses = none;
          full = full;
          last =
              record { here = k.0; greatest = all_none_behind rule r here k.1 };
        })

one_is_chosen : (rule : Rule) (cap : ℕ) (crossers here : List Standing) (o : Option Standing) → IsFirst rule crossers o
    → IsChosen rule cap crossers here (option_or o (referred rule cap here))
one_is_chosen rule cap crossers here None h =
    referred_is_chosen rule cap crossers here h (hindmost rule here) (hindmost_is_last rule here)
one_is_chosen rule cap crossers here (Some r) h =
    inl (record { here = h.0; least = all_none_ahead rule r crossers h.1 })

chosen_is_chosen : (rule : Rule) (cap d : ℕ) (here : List Standing)
    → IsChosen rule cap (crossing d here) here (chosen rule cap d here)
chosen_is_chosen rule cap d here =
    one_is_chosen rule cap (crossing d here) here (foremost rule (crossing d here))
    (foremost_is_first rule (crossing d here))

pub leaver_has_its_since : (way : Way) (cap d c : ℕ) (set : List Standing)
    → IsLeaver way cap d c set (leaver way cap d c set)
unfolding leaver
leaver_has_its_since way cap d c set = record {
  cut = λ e. rw e refl;
  open_wire = λ e. rw e (chosen_is_chosen way.rule cap d (standing_at c set));
}

-- ---- nobody else is

nothing_in_nil : (xs : List Standing) (r : Standing) → xs ≡ [] → Contains xs r → ⊥
nothing_in_nil xs r e h = omega (arith, h.1, ap length e)

contains_split : (x r : Standing) (xs ys : List Standing) → (Contains xs r → Contains ys r) → Contains (x ∷ xs) r
    → Contains (x ∷ ys) r
contains_split x r xs ys f h = by_place h.0 h.1 h.2
  where
    by_place : (k : ℕ) → k < length (x ∷ xs) → get_or (x ∷ xs) k r ≡ r → Contains (x ∷ ys) r
    by_place zero l e = (0, omega arith, e)
    by_place (suc k) l e = contains_later x r ys (f (k, omega arith, e))

contains_from_filter : (p : Standing → Bool) (xs : List Standing) (r : Standing) → Contains (filter p xs) r
    → Contains xs r
contains_from_filter p [] r h = h
contains_from_filter p (x ∷ xs) r h =
    cond_both (p x) (x ∷ filter p xs) (filter p xs) (λ (zs : List Standing). Contains zs r → Contains (x ∷ xs) r)
    (λ e k. contains_split x r (filter p xs) xs (contains_from_filter p xs r) k)
    (λ e k. contains_later x r xs (contains_from_filter p xs r k))
    h

same_first : (rule : Rule) (xs all : List Standing) (r q : Standing) → SincesDiffer all
    → ((z : Standing) → Contains xs z → Contains all z) → GoesFirst rule xs r → GoesFirst rule xs q → r ≡ q
same_first rule xs all r q differ inside h k =
    differ r q (inside r h.here) (inside q k.here)
    (neither_goes_before rule r q (All-contains (λ z. goes_before rule z q ≡ false) xs r k.least h.here)
    (All-contains (λ z. goes_before rule z r ≡ false) xs q h.least k.here))

same_last : (rule : Rule) (all : List Standing) (r q : Standing) → SincesDiffer all → GoesLast rule all r
    → GoesLast rule all q → r ≡ q
same_last rule all r q differ h k =
    differ r q h.here k.here
    (neither_goes_before rule r q (All-contains (λ z. goes_before rule r z ≡ false) all q h.greatest k.here)
    (All-contains (λ z. goes_before rule q z ≡ false) all r k.greatest h.here))

same_chosen : (rule : Rule) (cap : ℕ) (crossers here : List Standing) (o l : Option Standing) → SincesDiffer here
    → ((z : Standing) → Contains crossers z → Contains here z) →
    IsChosen rule cap crossers here o → IsChosen rule cap crossers here l → o ≡ l
same_chosen rule cap crossers here None None differ inside h k = refl
same_chosen rule cap crossers here None (Some q) differ inside h k =
    ⊎_elim (λ (m : GoesFirst rule crossers q). absurd (nothing_in_nil crossers q h.none_crosses m.here))
    (λ (m : IsReferred rule cap crossers here q). absurd (nothing_in_nil here q (h.not_full m.full) m.last.here)) k
same_chosen rule cap crossers here (Some r) None differ inside h k =
    ⊎_elim (λ (m : GoesFirst rule crossers r). absurd (nothing_in_nil crossers r k.none_crosses m.here))
    (λ (m : IsReferred rule cap crossers here r). absurd (nothing_in_nil here r (k.not_full m.full) m.last.here)) h
same_chosen rule cap crossers here (Some r) (Some q) differ inside h k =
    ap (λ z. Some z)
    (⊎_elim
    (λ (m : GoesFirst rule crossers r).
    ⊎_elim (λ (t : GoesFirst rule crossers q). same_first rule crossers here r q differ inside m t)
    (λ (t : IsReferred rule cap crossers here q). absurd (nothing_in_nil crossers r t.none_crosses m.here)) k)
    (λ (m : IsReferred rule cap crossers here r).
    ⊎_elim (λ (t : GoesFirst rule crossers q). absurd (nothing_in_nil crossers q m.none_crosses t.here))
    (λ (t : IsReferred rule cap crossers here q). same_last rule here r q differ m.last t.last) k)
    h)

chosen_is_unique : (rule : Rule) (cap d c : ℕ) (set : List Standing) (leaving : Option Standing)
    → SincesDiffer (standing_at c set)
    → IsChosen rule cap (crossing d (standing_at c set)) (standing_at c set) leaving
    → leaving ≡ chosen rule cap d (standing_at c set)
chosen_is_unique rule cap d c set leaving differ h =
    same_chosen rule cap (crossing d (standing_at c set)) (standing_at c set) leaving
    (chosen rule cap d (standing_at c set)) differ
    (λ z k. contains_from_filter (λ r. has_to_cross d r.message) (standing_at c set) z k) h
    (chosen_is_chosen rule cap d (standing_at c set))

pub leavers_are_unique : (way : Way) (cap d c : ℕ) (set : List Standing) (leaving : Option Standing)
    → SincesDiffer (standing_at c set) → IsLeaver way cap d c set leaving → leaving ≡ leaver way cap d c set
unfolding leaver
leavers_are_unique way cap d c set leaving differ h =
    ⊎_elim (λ (e : way.cut ≡ true). rw e (h.cut e))
    (λ (e : way.cut ≡ false). rw e (chosen_is_unique way.rule cap d c set leaving differ (h.open_wire e)))
    (cases_Bool way.cut)
