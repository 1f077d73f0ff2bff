-- How often lanes are used: round by round, and where the parcel of a round stands.
use Rattle.std.proofs.Common.{◌≡◌, ℕ, zero, suc, ◌+◌, ◌<◌, ◌≤◌, sym, ap, ◌∙◌, refl, subst}
use Rattle.std.proofs.Common.{Bool, true, false, cond, List, [], ◌∷◌, length, map, take, Some, eqb, arith}
use Rattle.std.proofs.lemmas.Bool.{eq-eqb}
use Rattle.std.specs.Prelude.{slice_get}
use Rattle.std.specs.List.{filter, range_with_len}
use Rattle.cm_exchange.specs.Lanes.{Exchange, round_count, kind_at, uses, due_list}

-- one or none
abbrev pub one_if : Bool → ℕ
one_if true = 1
one_if false = 0

-- up to the next round it is one more where this round is of the kind
pub uses-next : (kinds : List ℕ) (kind r : ℕ) → r < length kinds
    → uses kinds kind (suc r) ≡ uses kinds kind r + one_if (eqb (kind_at kinds r) kind)
uses-next [] kind r l = absurd (omega (arith, l))
uses-next (x ∷ kinds) kind zero l = by_test (eqb x kind) where
  by_test : (t : Bool) → length (cond t (x ∷ []) []) ≡ 0 + one_if t
  by_test true = refl
  by_test false = refl
uses-next (x ∷ kinds) kind (suc r) l = by_test (eqb x kind) (uses-next kinds kind r (omega (arith, l))) where
  by_test : (t : Bool) → uses kinds kind (suc r) ≡ uses kinds kind r + one_if (eqb (kind_at kinds r) kind)
      → length (cond t (x ∷ filter (λ one. eqb one kind) (take (suc r) kinds))
      (filter (λ one. eqb one kind) (take (suc r) kinds)))
      ≡ length (cond t (x ∷ filter (λ one. eqb one kind) (take r kinds)) (filter (λ one. eqb one kind) (take r kinds)))
      + one_if (eqb (kind_at kinds r) kind)
  by_test true h = omega (arith, h)
  by_test false h = h

pub uses-grow : (kinds : List ℕ) (kind r q : ℕ) → r ≤ q → uses kinds kind r ≤ uses kinds kind q
uses-grow [] kind r q l = none r q where
  none : (r q : ℕ) → uses [] kind r ≤ uses [] kind q
  none zero q = omega arith
  none (suc r) zero = omega arith
  none (suc r) (suc q) = omega arith
uses-grow (x ∷ kinds) kind zero q l = omega arith
uses-grow (x ∷ kinds) kind (suc r) zero l = absurd (omega (arith, l))
uses-grow (x ∷ kinds) kind (suc r) (suc q) l = by_test (eqb x kind) (uses-grow kinds kind r q (omega (arith, l))) where
  by_test : (t : Bool) → uses kinds kind r ≤ uses kinds kind q
      → length (cond t (x ∷ filter (λ one. eqb one kind) (take r kinds)) (filter (λ one. eqb one kind) (take r kinds)))
      ≤ length (cond t (x ∷ filter (λ one. eqb one kind) (take q kinds)) (filter (λ one. eqb one kind) (take q kinds)))
  by_test true h = omega (arith, h)
  by_test false h = h

-- ---- the parcel of a round

-- of things that are numbered from a place on, the one of this number stands behind those of its kind before it
its_place : {X : Type 0} (f : ℕ → X) (kinds all : List ℕ) (first r kind : ℕ) → r < length kinds
    → ((i : ℕ) → i < length kinds → kind_at all (first + i) ≡ kind_at kinds i)
    → kind_at kinds r ≡ kind
    → slice_get (map f (filter (λ i. eqb (kind_at all i) kind) (range_with_len first (length kinds))))
    (uses kinds kind r)
    ≡ Some (f (first + r))
its_place f [] all first r kind l same is = absurd (omega (arith, l))
its_place f (x ∷ kinds) all first zero kind l same is =
    let origin : first ≡ first + 0 = omega arith in
    let here : eqb (kind_at all first) kind ≡ true =
    eq-eqb (kind_at all first) kind (ap (kind_at all) origin ∙ same 0 (omega arith) ∙ is) in
    rw here (ap (λ (z : ℕ). Some (f z)) origin)
its_place {X} f (x ∷ kinds) all first (suc r) kind l same is =
    let origin : first ≡ first + 0 = omega arith in
    let here : kind_at all first ≡ x = ap (kind_at all) origin ∙ same 0 (omega arith) in
    subst (λ (z : ℕ). slice_get (map f (cond (eqb z kind) (first ∷ rest) rest)) (uses (x ∷ kinds) kind (suc r))
    ≡ Some (f (first + suc r)))
    (sym here)
    (by_test (eqb x kind)
    (its_place f kinds all (first + 1) r kind (omega (arith, l))
    (λ i below. ap (kind_at all) (let next : first + 1 + i ≡ first + suc i = omega arith in next)
    ∙ same (suc i) (omega (arith, below)))
    is
    ∙ ap (λ (z : ℕ). Some (f z)) (let next : first + 1 + r ≡ first + suc r = omega arith in next)))
  where
    rest : List ℕ
    rest = filter (λ i. eqb (kind_at all i) kind) (range_with_len (first + 1) (length kinds))

    by_test : (t : Bool) → slice_get (map f rest) (uses kinds kind r) ≡ Some (f (first + suc r))
        → slice_get (map f (cond t (first ∷ rest) rest))
        (length (cond t (x ∷ filter (λ one. eqb one kind) (take r kinds))
        (filter (λ one. eqb one kind) (take r kinds))))
        ≡ Some (f (first + suc r))
    by_test true h = h
    by_test false h = h

pub rounds_are_due_in_order : (exchange : Exchange) (r b : ℕ) → r < round_count exchange →
    Some (exchange.sent r b)
    ≡ slice_get (due_list exchange (kind_at exchange.kinds r) b) (uses exchange.kinds (kind_at exchange.kinds r) r)
rounds_are_due_in_order exchange r b l =
    sym (its_place (λ r. exchange.sent r b) exchange.kinds exchange.kinds 0 r (kind_at exchange.kinds r) l
    (λ i below. ap (kind_at exchange.kinds) (let same : 0 + i ≡ i = omega arith in same)) refl
    ∙ ap (λ (z : ℕ). Some (exchange.sent z b)) (let same : 0 + r ≡ r = omega arith in same))
