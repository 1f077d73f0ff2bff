-- Delivery, on the set and by the buffers.
use Rattle.std.proofs.Common.{◌≡◌, ℕ, Bool, true, false, not, ◌&&◌, ◌||◌, List, [], ◌∷◌, ◌++◌, refl, sym, ◌∙◌, ap}
use Rattle.std.proofs.Common.{subst, ⊎_elim, append_assoc}
use Rattle.std.proofs.lemmas.Bool.{cases_Bool}
use Rattle.std.proofs.lemmas.List.Folds.{list_any-append}
use Rattle.std.specs.List.{filter, list_any}
use Rattle.cm_model.specs.Array.{Chips, chip_at}
use Rattle.cm_model.specs.Router.{Since, Standing, is_at, is_before, standing_at}
use Rattle.cm_model.specs.Order.{put, in_order, queue, messages_of, buffer}
use Rattle.cm_model.specs.Letters.{can_receive, has_arrived, is_for, is_among}
use Rattle.cm_model.specs.Cycle.{is_delivered, delivered_at}
use Rattle.cm_model.specs.OneChip.{is_accepted, arrived_for, delivered, kept}
use Rattle.cm_model.proofs.Order.{AllBefore, AllAfter, IsRising, before_itself, not_both_before, filter-in_order}
use Rattle.cm_model.proofs.Crossing.{AllBefore-filter}
use Rattle.cm_model.proofs.Leaving.{filter-queue, filter-queue_same}
use Rattle.cm_model.proofs.Readiness.{IsReady, IsRising-filter, AllBefore-later}

-- ---- a test of some record, in any order

list_any-put : (p : Standing → Bool) (r : Standing) (xs : List Standing)
    → list_any p (put r xs) ≡ (p r || list_any p xs)
list_any-put p r [] = refl
list_any-put p r (x ∷ xs) =
    ⊎_elim (λ (e : is_before x.since r.since ≡ true). rw (e, list_any-put p r xs) (swapped (p x) (p r) (list_any p xs)))
    (λ (e : is_before x.since r.since ≡ false). rw e refl) (cases_Bool (is_before x.since r.since))
  where
    swapped : (a b t : Bool) → (a || (b || t)) ≡ (b || (a || t))
    swapped true true t = refl
    swapped true false t = refl
    swapped false b t = refl

list_any-in_order : (p : Standing → Bool) (xs : List Standing) → list_any p (in_order xs) ≡ list_any p xs
list_any-in_order p [] = refl
list_any-in_order p (x ∷ xs) = list_any-put p x (in_order xs) ∙ ap (λ z. p x || z) (list_any-in_order p xs)

-- a test that holds only at a chip
list_any-at : (c : ℕ) (p : Standing → Bool) (xs : List Standing)
    → list_any (λ q. is_at c q && p q) xs ≡ list_any p (standing_at c xs)
list_any-at c p [] = refl
list_any-at c p (x ∷ xs) =
    ⊎_elim (λ (e : is_at c x ≡ true). rw e (ap (λ z. p x || z) (list_any-at c p xs)))
    (λ (e : is_at c x ≡ false). rw e (list_any-at c p xs)) (cases_Bool (is_at c x))

-- ---- rivals are those that have arrived before, in the queue

-- a record has arrived for this processor
abbrev pub has_arrived_for : ℕ → Standing → Bool
has_arrived_for p q = has_arrived q.message && is_for p q.message

-- what a queue makes of a rival
abbrev pub comes_before : Standing → Standing → Bool
comes_before r q = has_arrived q.message && (is_for r.message.proc q.message && is_before q.since r.since)

all_count : (r : Standing) (xs : List Standing) → AllBefore r.since xs
    → list_any (comes_before r) xs ≡ list_any (has_arrived_for r.message.proc) xs
all_count r [] h = refl
all_count r (x ∷ xs) h =
    let e : is_before x.since r.since ≡ true = h.0 in
    let same : comes_before r x ≡ has_arrived_for r.message.proc x =
    ap (λ t. has_arrived x.message && (is_for r.message.proc x.message && t)) e
    ∙ last_true (has_arrived x.message) (is_for r.message.proc x.message) in
    rw (same, all_count r xs h.1) refl
  where
    last_true : (a b : Bool) → (a && (b && true)) ≡ (a && b)
    last_true true true = refl
    last_true true false = refl
    last_true false b = refl

none_counts : (r : Standing) (xs : List Standing) → AllAfter r.since xs → list_any (comes_before r) xs ≡ false
none_counts r [] h = refl
none_counts r (x ∷ xs) h =
    let e : is_before x.since r.since ≡ false = not_both_before r.since x.since h.0 in
    let same : comes_before r x ≡ false = ap (λ t. has_arrived x.message && (is_for r.message.proc x.message && t)) e
    ∙ last_false (has_arrived x.message) (is_for r.message.proc x.message) in
    rw (same, none_counts r xs h.1) refl
  where
    last_false : (a b : Bool) → (a && (b && false)) ≡ false
    last_false true true = refl
    last_false true false = refl
    last_false false b = refl

-- the test of delivery, told by the queue
abbrev pub is_delivered_from : (ℕ → Bool) → List Standing → Standing → Bool
is_delivered_from receives records r =
    has_arrived r.message && (receives r.message.proc && not (list_any (comes_before r) records))

all_before_next : (xs : List Standing) (r : Standing) (ys : List Standing) → IsRising (xs ++ r ∷ ys)
    → AllBefore r.since xs
all_before_next [] r ys h = tt
all_before_next (x ∷ xs) r ys h = (after_in x.since xs r ys h.0, all_before_next xs r ys h.1)
  where
    after_in : (s : Since) (zs : List Standing) (q : Standing) (ws : List Standing) → AllAfter s (zs ++ q ∷ ws)
        → is_before s q.since ≡ true
    after_in s [] q ws k = k.0
    after_in s (z ∷ zs) q ws k = after_in s zs q ws k.1

all_after_this : (xs : List Standing) (r : Standing) (ys : List Standing) → IsRising (xs ++ r ∷ ys)
    → AllAfter r.since ys
all_after_this [] r ys h = h.0
all_after_this (x ∷ xs) r ys h = all_after_this xs r ys h.1

-- these processors are those for which messages have arrived among these records
abbrev pub AreArrivals : List ℕ → List Standing → Type 0
AreArrivals before records = (p : ℕ) → is_among p before ≡ list_any (has_arrived_for p) records

or_false : (a : Bool) → (a || false) ≡ a
or_false true = refl
or_false false = refl

or_turned : (a b : Bool) → (a || b) ≡ (b || (a || false))
or_turned true true = refl
or_turned true false = refl
or_turned false true = refl
or_turned false false = refl

one_more_arrival : (before : List ℕ) (xs : List Standing) (r : Standing) → AreArrivals before xs
    → AreArrivals (arrived_for before r.message) (xs ++ r ∷ [])
one_more_arrival before xs r h p =
    ⊎_elim
    (λ (e : has_arrived r.message ≡ true). rw (e, list_any-append (has_arrived_for p) xs (r ∷ []), e, h p)
    (or_turned (is_for p r.message) (list_any (has_arrived_for p) xs)))
    (λ (e : has_arrived r.message ≡ false). rw (e, list_any-append (has_arrived_for p) xs (r ∷ []), e, h p)
    (sym (or_false (list_any (has_arrived_for p) xs))))
    (cases_Bool (has_arrived r.message))

delivered_here : (receives : ℕ → Bool) (before : List ℕ) (xs : List Standing) (r : Standing) (ys : List Standing)
    → AreArrivals before xs → IsRising (xs ++ r ∷ ys) →
    is_delivered_from receives (xs ++ r ∷ ys) r ≡ is_accepted receives before r.message
delivered_here receives before xs r ys h k =
    let itself : comes_before r r ≡ false =
    ap (λ t. has_arrived r.message && (is_for r.message.proc r.message && t)) (before_itself r.since)
    ∙ last_no (has_arrived r.message) (is_for r.message.proc r.message) in
    let rest : list_any (comes_before r) (r ∷ ys) ≡ false =
    rw (itself, none_counts r ys (all_after_this xs r ys k)) refl in
    ap (λ t. has_arrived r.message && (receives r.message.proc && not t))
    (list_any-append (comes_before r) xs (r ∷ ys)
    ∙ (ap (λ t. list_any (comes_before r) xs || t) rest
    ∙ (or_false (list_any (comes_before r) xs)
    ∙ (all_count r xs (all_before_next xs r ys k) ∙ sym (h r.message.proc)))))
  where
    last_no : (a b : Bool) → (a && (b && false)) ≡ false
    last_no true true = refl
    last_no true false = refl
    last_no false b = refl

delivered_rest : (receives : ℕ → Bool) (before : List ℕ) (all xs ys : List Standing) → all ≡ xs ++ ys
    → AreArrivals before xs → IsRising all →
    messages_of (filter (is_delivered_from receives all) ys) ≡ delivered receives before (messages_of ys)
delivered_rest receives before all xs [] e h k = refl
delivered_rest receives before all xs (r ∷ ys) e h k =
    let here : is_delivered_from receives all r ≡ is_accepted receives before r.message =
    subst (λ (z : List Standing). is_delivered_from receives z r ≡ is_accepted receives before r.message) (sym e)
    (delivered_here receives before xs r ys h (subst (λ (z : List Standing). IsRising z) e k)) in
    let ih : messages_of (filter (is_delivered_from receives all) ys) ≡ delivered receives
    (arrived_for before r.message) (messages_of ys) =
    delivered_rest receives (arrived_for before r.message) all (xs ++ r ∷ []) ys
    (e ∙ sym (append_assoc xs (r ∷ []) ys)) (one_more_arrival before xs r h) k in
    ⊎_elim (λ (a : is_accepted receives before r.message ≡ true). rw (here, a) (ap (λ z. r.message ∷ z) ih))
    (λ (a : is_accepted receives before r.message ≡ false). rw (here, a) ih)
    (cases_Bool (is_accepted receives before r.message))

kept_rest : (receives : ℕ → Bool) (before : List ℕ) (all xs ys : List Standing) → all ≡ xs ++ ys
    → AreArrivals before xs → IsRising all →
    messages_of (filter (λ r. not (is_delivered_from receives all r)) ys) ≡ kept receives before (messages_of ys)
kept_rest receives before all xs [] e h k = refl
kept_rest receives before all xs (r ∷ ys) e h k =
    let here : is_delivered_from receives all r ≡ is_accepted receives before r.message =
    subst (λ (z : List Standing). is_delivered_from receives z r ≡ is_accepted receives before r.message) (sym e)
    (delivered_here receives before xs r ys h (subst (λ (z : List Standing). IsRising z) e k)) in
    let ih : messages_of (filter (λ q. not (is_delivered_from receives all q)) ys) ≡ kept receives
    (arrived_for before r.message) (messages_of ys) =
    kept_rest receives (arrived_for before r.message) all (xs ++ r ∷ []) ys (e ∙ sym (append_assoc xs (r ∷ []) ys))
    (one_more_arrival before xs r h) k in
    ⊎_elim (λ (a : is_accepted receives before r.message ≡ true). rw (here, a) ih)
    (λ (a : is_accepted receives before r.message ≡ false). rw (here, a) (ap (λ z. r.message ∷ z) ih))
    (cases_Bool (is_accepted receives before r.message))

-- ---- delivery at a chip

is_delivered_at : (chips : Chips) (set : List Standing) (c : ℕ) (r : Standing) → r.chip ≡ c
    → is_delivered chips set r ≡ is_delivered_from (can_receive (chip_at chips c)) (queue c set) r
unfolding queue
is_delivered_at chips set c r e =
    ap (λ t. has_arrived r.message && (can_receive (chip_at chips r.chip) r.message.proc && not t))
    (list_any-at r.chip (comes_before r) set ∙ sym (list_any-in_order (comes_before r) (standing_at r.chip set)))
    ∙ ap (λ k. has_arrived r.message
    && (can_receive (chip_at chips k) r.message.proc && not
    (list_any (comes_before r) (in_order (standing_at k set))))) e

-- what is delivered, told by the buffer
pub delivered_at_is : (chips : Chips) (set : List Standing) (c : ℕ) → IsRising (queue c set)
    → delivered_at chips set c ≡ delivered (can_receive (chip_at chips c)) [] (buffer c set)
unfolding delivered_at
delivered_at_is chips set c h =
    ap messages_of (sym (filter-queue (is_delivered chips set) c set)
    ∙ filter-queue_same (is_delivered chips set) (is_delivered_from (can_receive (chip_at chips c)) (queue c set)) c
    set (is_delivered_at chips set c))
    ∙ delivered_rest (can_receive (chip_at chips c)) [] (queue c set) [] (queue c set) refl (λ p. refl) h

-- the set after delivery
abbrev pub undelivered : Chips → List Standing → List Standing
undelivered chips set = filter (λ r. not (is_delivered chips set r)) set

pub filter_twice : (p q : Standing → Bool) (xs : List Standing) → filter p (filter q xs) ≡ filter q (filter p xs)
filter_twice p q [] = refl
filter_twice p q (x ∷ xs) =
    ⊎_elim
    (λ (e : p x ≡ true). ⊎_elim (λ (t : q x ≡ true). rw (e, t, e) (ap (λ z. x ∷ z) (filter_twice p q xs)))
    (λ (t : q x ≡ false). rw (e, t) (filter_twice p q xs)) (cases_Bool (q x)))
    (λ (e : p x ≡ false). ⊎_elim (λ (t : q x ≡ true). rw (e, t, e) (filter_twice p q xs))
    (λ (t : q x ≡ false). rw (e, t) (filter_twice p q xs)) (cases_Bool (q x)))
    (cases_Bool (p x))

-- the queue of a part of a set is that part of the queue
pub queue-filter : (p : Standing → Bool) (c : ℕ) (set : List Standing) → queue c (filter p set) ≡ filter p (queue c set)
unfolding queue
queue-filter p c set = ap in_order (filter_twice (is_at c) p set) ∙ sym (filter-in_order p (standing_at c set))

-- what is kept, told by the buffer
pub buffer-undelivered : (chips : Chips) (set : List Standing) (c : ℕ) → IsRising (queue c set)
    → buffer c (undelivered chips set) ≡ kept (can_receive (chip_at chips c)) [] (buffer c set)
buffer-undelivered chips set c h =
    ap messages_of (queue-filter (λ r. not (is_delivered chips set r)) c set
    ∙ filter-queue_same (λ r. not (is_delivered chips set r))
    (λ r. not (is_delivered_from (can_receive (chip_at chips c)) (queue c set) r)) c set
    (λ r e. ap not (is_delivered_at chips set c r e)))
    ∙ kept_rest (can_receive (chip_at chips c)) [] (queue c set) [] (queue c set) refl (λ p. refl) h

-- a part of what was ready is ready
pub IsReady-filter : (p : Standing → Bool) (top : Since) (set : List Standing) → IsReady top set
    → IsReady top (filter p set)
IsReady-filter p top set h = record {
  before = AllBefore-filter p top set h.before;
  rising = λ c. subst (λ (xs : List Standing). IsRising xs) (sym (queue-filter p c set))
      (IsRising-filter p (queue c set) (h.rising c));
}

pub later_ready : (set : List Standing) (s t : Since) → is_before s t ≡ true → IsReady s set → IsReady t set
later_ready set s t h k = record { before = AllBefore-later s t set h k.before; rising = k.rising }
