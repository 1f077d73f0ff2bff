-- Where the messages of a chip rise, no two of them have one since.
use Rattle.std.proofs.Common.{◌≡◌, ℕ, zero, suc, true, false, List, [], ◌∷◌, refl, sym, ◌∙◌, ap, subst, ⊎_elim, arith}
use Rattle.std.proofs.lemmas.Bool.{cases_Bool, both_ways}
use Rattle.std.proofs.lemmas.List.Elements.{All-nil, All-cons, All-contains}
use Rattle.std.specs.List.{All, Contains}
use Rattle.cm_model.specs.Router.{Since, Standing, is_before, same_since, standing_at}
use Rattle.cm_model.specs.Order.{put, in_order, queue}
use Rattle.cm_model.specs.Leaver.{SincesDiffer}
use Rattle.cm_model.proofs.Order.{AllAfter, IsRising, same_not_before, same_not_after}

-- ---- sorting loses nobody

contains_first : (x : Standing) (xs : List Standing) → Contains (x ∷ xs) x
contains_first x xs = (0, omega arith, refl)

contains_later : (x r : Standing) (xs : List Standing) → Contains xs r → Contains (x ∷ xs) r
contains_later x r xs h = (suc h.0, omega (arith, h.1), h.2)

put_holds : (r : Standing) (xs : List Standing) → Contains (put r xs) r
put_holds r [] = contains_first r []
put_holds r (x ∷ xs) =
    ⊎_elim (λ (e : is_before x.since r.since ≡ true). rw e (contains_later x r (put r xs) (put_holds r xs)))
    (λ (e : is_before x.since r.since ≡ false). rw e (contains_first r (x ∷ xs)))
    (cases_Bool (is_before x.since r.since))

put_keeps : (r q : Standing) (xs : List Standing) → Contains xs q → Contains (put r xs) q
put_keeps r q [] h = absurd (omega (arith, h.1))
put_keeps r q (x ∷ xs) (zero, l, e) =
    ⊎_elim (λ (b : is_before x.since r.since ≡ true). rw b (0, omega arith, e))
    (λ (b : is_before x.since r.since ≡ false). rw b (1, omega arith, e)) (cases_Bool (is_before x.since r.since))
put_keeps r q (x ∷ xs) (suc k, l, e) =
    let rest : Contains xs q = (k, omega arith, e) in
    ⊎_elim (λ (b : is_before x.since r.since ≡ true). rw b (contains_later x q (put r xs) (put_keeps r q xs rest)))
    (λ (b : is_before x.since r.since ≡ false). rw b (contains_later r q (x ∷ xs) (contains_later x q xs rest)))
    (cases_Bool (is_before x.since r.since))

in_order_keeps : (q : Standing) (xs : List Standing) → Contains xs q → Contains (in_order xs) q
in_order_keeps q [] h = h
in_order_keeps q (x ∷ xs) (zero, l, e) =
    subst (λ (z : Standing). Contains (put x (in_order xs)) z) e (put_holds x (in_order xs))
in_order_keeps q (x ∷ xs) (suc k, l, e) =
    put_keeps x q (in_order xs) (in_order_keeps q xs (k, omega arith, e))

-- ---- rising

all_after : (s : Since) (xs : List Standing) → AllAfter s xs → All (λ q. is_before s q.since ≡ true) xs
all_after s [] h = All-nil (λ (q : Standing). is_before s q.since ≡ true)
all_after s (x ∷ xs) h = All-cons (λ q. is_before s q.since ≡ true) x xs h.0 (all_after s xs h.1)

rising_differ : (xs : List Standing) → IsRising xs → SincesDiffer xs
rising_differ [] h r q in_r in_q same = absurd (omega (arith, in_r.1))
rising_differ (x ∷ xs) h r q (zero, l, e) (zero, k, f) same = sym e ∙ f
rising_differ (x ∷ xs) h r q (zero, l, e) (suc j, k, f) same =
    let after : is_before x.since q.since ≡ true =
    All-contains (λ z. is_before x.since z.since ≡ true) xs q (all_after x.since xs h.0) (j, omega arith, f) in
    let apart : same_since x.since q.since ≡ false = same_not_before x.since q.since after in
    absurd (both_ways (same_since x.since q.since) apart (ap (λ (z : Standing). same_since z.since q.since) e ∙ same))
rising_differ (x ∷ xs) h r q (suc i, l, e) (zero, k, f) same =
    let after : is_before x.since r.since ≡ true =
    All-contains (λ z. is_before x.since z.since ≡ true) xs r (all_after x.since xs h.0) (i, omega arith, e) in
    let apart : same_since r.since x.since ≡ false = same_not_after x.since r.since after in
    absurd (both_ways (same_since r.since x.since) apart (ap (λ (z : Standing). same_since r.since z.since) f ∙ same))
rising_differ (x ∷ xs) h r q (suc i, l, e) (suc j, k, f) same =
    rising_differ xs h.1 r q (i, omega arith, e) (j, omega arith, f) same

pub sinces_differ : (c : ℕ) (set : List Standing) → IsRising (queue c set) → SincesDiffer (standing_at c set)
unfolding queue
sinces_differ c set h r q in_r in_q same =
    rising_differ (in_order (standing_at c set)) h r q (in_order_keeps r (standing_at c set) in_r)
    (in_order_keeps q (standing_at c set) in_q) same
