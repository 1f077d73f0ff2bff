-- Tags and births over a whole run: each new tag has the counter for its birth, and its own origin.
use Rattle.std.proofs.Common.{◌≡◌, ℕ, zero, suc, ◌+◌, ◌<◌, ◌≤◌, ◌^◌, Bool, true, false, not, cond, eqb, ltb, ◌&&◌}
use Rattle.std.proofs.Common.{List, [], ◌∷◌, length, refl, sym, ◌∙◌, ap, subst, ⊎_elim, arith}
use Rattle.std.proofs.lemmas.Bool.{cases_Bool, cases_eq, eqb-true, eq-eqb, ne_eqb, lt-ltb, le-ltb}
use Rattle.std.proofs.lemmas.Bool.{ltb-true, and_parts, and_right}
use Rattle.std.proofs.lemmas.Bool.Decides.{nat_tests}
use Rattle.std.proofs.lemmas.List.Elements.{All-head, All-tail, All-cons, All-nil}
use Rattle.std.proofs.lemmas.List.Sums.{sum_by-cons, sum_by-le-sum_by}
use Rattle.std.specs.Prelude.{nat_lt, ◌==◌}
use Rattle.std.specs.List.{All, filter_map, sum_by, count_by, range_with_len}
use Rattle.cm_model.specs.declared.act.Act.{Act}
use Rattle.cm_model.specs.declared.act.Act.TheVariants as act
use Rattle.cm_model.specs.declared.act.Nano.{Nano}
use Rattle.cm_model.specs.declared.message.Tag.{Tag}
use Rattle.cm_model.specs.Array.{chip_at, nth_or_nil}
use Rattle.cm_model.specs.Router.{standing_at}
use Rattle.cm_model.specs.Letters.{message_sent}
use Rattle.cm_model.specs.Steps.{Instruct, Inject, Cross, Deliver, steps_of, all_steps}
use Rattle.cm_model.specs.Cycle.{State, taken_at, after_injection, after_delivery, state_after, state_after_all}
use Rattle.cm_model.specs.Machine.{Machine, opened, closed, run_of}
use Rattle.cm_model.specs.Account.{Triple, standing_triple, delivered_triple, account}
use Rattle.cm_model.specs.Found.{same_tag}
use Rattle.cm_model.specs.Keeping.{BornBefore, HasGoodTags, HasTagsOnce}
use Rattle.cm_model.proofs.Injecting.{AllAbove, IsAscending, IsAscending-taken}
use Rattle.cm_model.proofs.Runs.{crossings, state_after_all-append}
use Rattle.cm_model.proofs.Counting.{AllInCube, sum_by-none, sum_by-past}
use Rattle.cm_model.proofs.Conserving.{one, chips_of, triple_of, delivered_count, amount, fresh_count}
use Rattle.cm_model.proofs.Conserving.{amount-after_injection, standing_count-after_dimension, amount-after_delivery}
use Rattle.cm_model.proofs.Accounting.{AreSteps-crossings, AreSteps-act, state_after_all_follows, state_left}
use Rattle.cm_model.proofs.Accounting.{AllInCube-opened, account-opened, account-run_of}

-- ---- what a petit cycle adds to the account

amount-crossings : (p : Triple → Bool) (n cap a k : ℕ) (state : State)
    → amount p n (state_after_all n cap state (crossings a k)) ≡ amount p n state
unfolding amount
amount-crossings p n cap a zero state = refl
amount-crossings p n cap a (suc k) state =
    amount-crossings p n cap (a + 1) k (state_after n cap state (Cross a))
    ∙ ap (λ z. z + delivered_count p n state.logs)
    (standing_count-after_dimension p state.routing cap a state.cycle state.standing)

clock-crossings : (n cap a k : ℕ) (state : State) → (state_after_all n cap state (crossings a k)).clock ≡ state.clock
clock-crossings n cap a zero state = refl
clock-crossings n cap a (suc k) state = clock-crossings n cap (a + 1) k (state_after n cap state (Cross a))

-- the state before delivery
abbrev routed : ℕ → ℕ → State → State
routed n cap state = state_after_all n cap (after_injection n cap state) (crossings 0 n)

cycle_is : (n cap : ℕ) (state : State)
    → state_after_all n cap state (steps_of n act.Cycle) ≡ after_delivery n (routed n cap state)
cycle_is n cap state = state_after_all-append n cap (after_injection n cap state) (crossings 0 n) (Deliver ∷ [])

routed_in_cube : (n cap : ℕ) (state : State) → AllInCube n state.standing → AllInCube n (routed n cap state).standing
routed_in_cube n cap state h =
    (state_after_all_follows n cap state (Inject ∷ crossings 0 n) (tt, AreSteps-crossings n 0 n (omega arith)) h).cube

amount-cycle : (p : Triple → Bool) (n cap : ℕ) (state : State) → AllInCube n state.standing
    → amount p n (state_after_all n cap state (steps_of n act.Cycle)) ≡ amount p n state + fresh_count p n cap state
amount-cycle p n cap state h =
    ap (amount p n) (cycle_is n cap state)
    ∙ (amount-after_delivery p n (routed n cap state) (routed_in_cube n cap state h)
    ∙ (amount-crossings p n cap 0 n (after_injection n cap state) ∙ amount-after_injection p n cap state))

clock-after_injection : (n cap : ℕ) (state : State) → (after_injection n cap state).clock ≡ state.clock
unfolding after_injection
clock-after_injection n cap state = refl

clock-after_delivery : (n : ℕ) (state : State) → (after_delivery n state).clock ≡ state.clock + 1
unfolding after_delivery
clock-after_delivery n state = refl

clock-cycle : (n cap : ℕ) (state : State) → (state_after_all n cap state (steps_of n act.Cycle)).clock ≡ state.clock + 1
clock-cycle n cap state =
    ap (λ (s : State). s.clock) (cycle_is n cap state)
    ∙ (clock-after_delivery n (routed n cap state)
    ∙ ap (λ k. k + 1) (clock-crossings n cap 0 n (after_injection n cap state) ∙ clock-after_injection n cap state))

-- ---- new tags

-- the line has this tag
abbrev pub has_tag : Tag → Triple → Bool
has_tag tag triple = same_tag triple.tag tag

-- the line's birth is not before this petit cycle
abbrev pub is_late : ℕ → Triple → Bool
is_late clock triple = not (nat_lt triple.tag.birth clock)

none_above : (k p : ℕ) (ps : List ℕ) → k ≤ p → AllAbove p ps → sum_by (λ q. cond (eqb q k) 1 0) ps ≡ 0
none_above k p [] l h = refl
none_above k p (q ∷ qs) l h =
    let above : p < q = h.0 in
    let other : ◌≡◌ {A = ℕ} (cond (eqb q k) 1 0) 0 = rw (ne_eqb q k (λ e. omega (arith, e))) refl in
    omega (arith, sum_by-cons (λ x. cond (eqb x k) 1 0) q qs, none_above k p qs l h.1)

at_most_one : (k : ℕ) (ps : List ℕ) → IsAscending ps → sum_by (λ q. cond (eqb q k) 1 0) ps ≤ 1
at_most_one k [] h = omega arith
at_most_one k (p ∷ ps) h =
    ⊎_elim
    (λ (e : p ≡ k).
    let here : ◌≡◌ {A = ℕ} (cond (eqb p k) 1 0) 1 = rw (eq-eqb p k e) refl in
    omega (arith, sum_by-cons (λ x. cond (eqb x k) 1 0) p ps, none_above k p ps (omega arith) h.0))
    (λ (e : p ≡ k → ⊥).
    let other : ◌≡◌ {A = ℕ} (cond (eqb p k) 1 0) 0 = rw (ne_eqb p k e) refl in
    omega (arith, sum_by-cons (λ x. cond (eqb x k) 1 0) p ps, at_most_one k ps h.1))
    (cases_eq p k)

one_in_range : (k a len : ℕ) → sum_by (λ c. cond (eqb k c) 1 0) (range_with_len a len) ≤ 1
one_in_range k a zero = omega arith
one_in_range k a (suc len) =
    ⊎_elim
    (λ (e : k ≡ a).
    let here : ◌≡◌ {A = ℕ} (cond (eqb k a) 1 0) 1 = rw (eq-eqb k a e) refl in
    omega (
      arith,
      sum_by-cons (λ x. cond (eqb k x) 1 0) a (range_with_len (a + 1) len),
      sum_by-past (λ x. 1) k (a + 1) len (omega arith),
    ))
    (λ (e : k ≡ a → ⊥).
    let other : ◌≡◌ {A = ℕ} (cond (eqb k a) 1 0) 0 = rw (ne_eqb k a e) refl in
    omega (arith, sum_by-cons (λ x. cond (eqb k x) 1 0) a (range_with_len (a + 1) len), one_in_range k (a + 1) len))
    (cases_eq k a)

-- a test that implies another counts no more
one_le : (p q : Triple → Bool) (t : Triple) → (p t ≡ true → q t ≡ true) → one p t ≤ one q t
one_le p q t h =
    ⊎_elim (λ (e : p t ≡ true). let f : q t ≡ true = h e in rw (e, f) (omega arith))
    (λ (e : p t ≡ false). rw e (omega arith)) (cases_Bool (p t))

amount_le : (p q : Triple → Bool) (n : ℕ) (state : State) → ((t : Triple) → p t ≡ true → q t ≡ true)
    → amount p n state ≤ amount q n state
unfolding amount
amount_le p q n state h =
    omega (
      arith,
      sum_by-le-sum_by (λ r. one p (triple_of r)) (λ r. one q (triple_of r)) state.standing
          (λ r. one_le p q (triple_of r) (h (triple_of r))),
      sum_by-le-sum_by (λ c. count_by p (filter_map delivered_triple (nth_or_nil state.logs c)))
          (λ c. count_by q (filter_map delivered_triple (nth_or_nil state.logs c))) (chips_of n)
          (λ c. sum_by-le-sum_by (one p) (one q) (filter_map delivered_triple (nth_or_nil state.logs c))
          (λ t. one_le p q t (h t))),
    )

-- the line of what a processor sends
abbrev sent_line : ℕ → State → ℕ → ℕ → Triple
sent_line n state c p = standing_triple c (message_sent n state.clock c (chip_at state.chips c) p)

fresh_none : (p : Triple → Bool) (n cap : ℕ) (state : State) → ((c q : ℕ) → p (sent_line n state c q) ≡ false)
    → fresh_count p n cap state ≡ 0
unfolding fresh_count
fresh_none p n cap state h =
    sum_by-none (λ c. sum_by (λ q. one p (sent_line n state c q)) (taken_at cap state c)) (chips_of n)
    (λ c. sum_by-none (λ q. one p (sent_line n state c q)) (taken_at cap state c)
    (λ q. let e : p (sent_line n state c q) ≡ false = h c q in rw e refl))

middle_counts : (a b c : Bool) → cond (a && (b && c)) 1 0 ≤ cond b 1 0
middle_counts true true true = omega arith
middle_counts true true false = omega arith
middle_counts true false c = omega arith
middle_counts false true c = omega arith
middle_counts false false c = omega arith

sent_here : (tag : Tag) (n cap : ℕ) (state : State) (c : ℕ)
    → sum_by (λ q. one (has_tag tag) (sent_line n state c q)) (taken_at cap state c) ≤ cond (eqb tag.chip c) 1 0
sent_here tag n cap state c =
    ⊎_elim
    (λ (e : tag.chip ≡ c).
    let home : eqb tag.chip c ≡ true = eq-eqb tag.chip c e in
    rw home (omega (
      arith,
      at_most_one tag.proc (taken_at cap state c)
          (IsAscending-taken cap (length (standing_at c state.standing)) (chip_at state.chips c)),
      sum_by-le-sum_by (λ q. one (has_tag tag) (sent_line n state c q)) (λ q. cond (eqb q tag.proc) 1 0)
          (taken_at cap state c) (λ q. middle_counts (eqb c tag.chip) (eqb q tag.proc) (eqb state.clock tag.birth)),
    )))
    (λ (e : tag.chip ≡ c → ⊥).
    let away : eqb c tag.chip ≡ false = ne_eqb c tag.chip (λ s. e (sym s)) in
    omega (
      arith,
      sum_by-none (λ q. one (has_tag tag) (sent_line n state c q)) (taken_at cap state c) (λ q. rw away refl),
    ))
    (cases_eq tag.chip c)

fresh_once : (tag : Tag) (n cap : ℕ) (state : State) → fresh_count (has_tag tag) n cap state ≤ 1
unfolding fresh_count
fresh_once tag n cap state =
    omega (
      arith,
      sum_by-le-sum_by (λ c. sum_by (λ q. one (has_tag tag) (sent_line n state c q)) (taken_at cap state c))
          (λ c. cond (eqb tag.chip c) 1 0) (chips_of n) (sent_here tag n cap state),
      one_in_range tag.chip 0 (2 ^ n),
    )

-- ---- tags and births over acts

-- what the account of a state keeps
record IsBooked (n : ℕ) (state : State) : Type 0 where
  cube : AllInCube n state.standing
  once : (tag : Tag) → amount (has_tag tag) n state ≤ 1
  born : amount (is_late state.clock) n state ≡ 0

late_before : (clock : ℕ) (t : Triple) → is_late (clock + 1) t ≡ true → is_late clock t ≡ true
late_before clock t h = grind (arith, nat_tests)

tag_is_late : (tag : Tag) (clock : ℕ) (t : Triple) → tag.birth ≡ clock → has_tag tag t ≡ true → is_late clock t ≡ true
tag_is_late tag clock t e h =
    let birth : t.tag.birth ≡ tag.birth =
    eqb-true t.tag.birth tag.birth
    (and_parts (t.tag.proc == tag.proc) (t.tag.birth == tag.birth)
    (and_parts (t.tag.chip == tag.chip) (t.tag.proc == tag.proc && t.tag.birth == tag.birth) h).1).1 in
    let late : ltb t.tag.birth clock ≡ false = le-ltb t.tag.birth clock (omega arith) in
    ap not late

other_birth : (tag : Tag) (clock : ℕ) (t : Triple) → (tag.birth ≡ clock → ⊥) → t.tag.birth ≡ clock
    → has_tag tag t ≡ false
other_birth tag clock t ne e =
    let differ : (t.tag.birth == tag.birth) ≡ false = ne_eqb t.tag.birth tag.birth (λ same. ne (sym same ∙ e)) in
    and_right (t.tag.chip == tag.chip) (t.tag.proc == tag.proc && t.tag.birth == tag.birth)
    (and_right (t.tag.proc == tag.proc) (t.tag.birth == tag.birth) differ)

cycle_once : (n cap : ℕ) (state : State) (tag : Tag) → IsBooked n state
    → amount (has_tag tag) n (state_after_all n cap state (steps_of n act.Cycle)) ≤ 1
cycle_once n cap state tag h =
    ⊎_elim
    (λ (e : tag.birth ≡ state.clock).
    omega (
      arith,
      amount-cycle (has_tag tag) n cap state h.cube,
      h.born,
      amount_le (has_tag tag) (is_late state.clock) n state (λ t. tag_is_late tag state.clock t e),
      fresh_once tag n cap state,
    ))
    (λ (e : tag.birth ≡ state.clock → ⊥).
    omega (
      arith,
      amount-cycle (has_tag tag) n cap state h.cube,
      h.once tag,
      fresh_none (has_tag tag) n cap state (λ c q. other_birth tag state.clock (sent_line n state c q) e refl),
    ))
    (cases_eq tag.birth state.clock)

cycle_born : (n cap : ℕ) (state : State) → IsBooked n state
    → amount (is_late (state.clock + 1)) n (state_after_all n cap state (steps_of n act.Cycle)) ≡ 0
cycle_born n cap state h =
    omega (
      arith,
      amount-cycle (is_late (state.clock + 1)) n cap state h.cube,
      h.born,
      amount_le (is_late (state.clock + 1)) (is_late state.clock) n state (late_before state.clock),
      fresh_none (is_late (state.clock + 1)) n cap state
          (λ c q. ap not (lt-ltb state.clock (state.clock + 1) (omega arith))),
    )

amount-nano : (p : Triple → Bool) (n cap : ℕ) (state : State) (nano : Nano)
    → amount p n (state_after n cap state (Instruct nano)) ≡ amount p n state
unfolding amount
amount-nano p n cap state nano = refl

act_books : (n cap : ℕ) (state : State) (a : Act) → IsBooked n state
    → IsBooked n (state_after_all n cap state (steps_of n a))
act_books n cap state (act.Nano nano) h = record {
  cube = h.cube;
  once = λ tag. omega (arith, amount-nano (has_tag tag) n cap state nano, h.once tag);
  born = amount-nano (is_late state.clock) n cap state nano ∙ h.born;
}
act_books n cap state act.Sense h = h
act_books n cap state act.Cycle h = record {
  cube = (state_after_all_follows n cap state (steps_of n act.Cycle) (AreSteps-act n act.Cycle) h.cube).cube;
  once = λ tag. cycle_once n cap state tag h;
  born = ap (λ k. amount (is_late k) n (state_after_all n cap state (steps_of n act.Cycle))) (clock-cycle n cap state)
      ∙ cycle_born n cap state h;
}

run_books : (n cap : ℕ) (state : State) (acts : List Act) → IsBooked n state
    → IsBooked n (state_after_all n cap state (all_steps n acts))
run_books n cap state [] h = h
run_books n cap state (a ∷ acts) h =
    subst (λ (s : State). IsBooked n s) (sym (state_after_all-append n cap state (steps_of n a) (all_steps n acts)))
    (run_books n cap (state_after_all n cap state (steps_of n a)) acts (act_books n cap state a h))

-- ---- the same of machines

none_late : (clock : ℕ) (xs : List Triple) → All (λ triple. triple.tag.birth < clock) xs
    → count_by (is_late clock) xs ≡ 0
none_late clock [] h = refl
none_late clock (x ∷ xs) h =
    let first : x.tag.birth < clock = All-head (λ triple. triple.tag.birth < clock) x xs h in
    let early : is_late clock x ≡ false = ap not (lt-ltb x.tag.birth clock first) in
    let here : one (is_late clock) x ≡ 0 = rw early refl in
    omega (
      arith,
      sum_by-cons (one (is_late clock)) x xs,
      none_late clock xs (All-tail (λ triple. triple.tag.birth < clock) x xs h),
    )

all_early : (clock : ℕ) (xs : List Triple) → count_by (is_late clock) xs ≡ 0
    → All (λ triple. triple.tag.birth < clock) xs
all_early clock [] h = All-nil (λ (triple : Triple). triple.tag.birth < clock)
all_early clock (x ∷ xs) h =
    let parts : count_by (is_late clock) (x ∷ xs) ≡ one (is_late clock) x + count_by (is_late clock) xs =
    sum_by-cons (one (is_late clock)) x xs in
    let none : one (is_late clock) x ≡ 0 = omega arith in
    All-cons (λ triple. triple.tag.birth < clock) x xs
    (⊎_elim (λ (e : nat_lt x.tag.birth clock ≡ true). ltb-true x.tag.birth clock e)
    (λ (e : nat_lt x.tag.birth clock ≡ false). absurd (one_is_none (sym (ap (λ b. cond (not b) 1 0) e) ∙ none)))
    (cases_Bool (nat_lt x.tag.birth clock)))
    (all_early clock xs (omega arith))
  where
    one_is_none : ◌≡◌ {A = ℕ} 1 0 → ⊥
    one_is_none e = omega (arith, e)

clock-opened : (n : ℕ) (machine : Machine) → (opened n machine).clock ≡ machine.clock
unfolding opened
clock-opened n machine = refl

opened_books : (n : ℕ) (machine : Machine) → HasTagsOnce n machine → BornBefore n machine
    → IsBooked n (opened n machine)
opened_books n machine once born = record {
  cube = AllInCube-opened n machine;
  once = λ tag. omega (arith, account-opened (has_tag tag) n machine, once tag);
  born = ap (λ k. amount (is_late k) n (opened n machine)) (clock-opened n machine)
      ∙ (sym (account-opened (is_late machine.clock) n machine) ∙ none_late machine.clock (account n machine) born);
}

-- no tag comes to stand twice in the account
pub tags_stay_once : (n cap : ℕ) (machine : Machine) (acts : List Act) → HasTagsOnce n machine → BornBefore n machine
    → HasTagsOnce n (run_of n cap machine acts)
tags_stay_once n cap machine acts once born tag =
    omega (
      arith,
      account-run_of (has_tag tag) n cap machine acts,
      (run_books n cap (opened n machine) acts (opened_books n machine once born)).once tag,
    )

clock-run_of : (n cap : ℕ) (machine : Machine) (acts : List Act)
    → (run_of n cap machine acts).clock ≡ (state_left n cap machine acts).clock
unfolding run_of closed
clock-run_of n cap machine acts = refl

-- births stay below the counter
pub births_stay_before : (n cap : ℕ) (machine : Machine) (acts : List Act) → HasTagsOnce n machine
    → BornBefore n machine → BornBefore n (run_of n cap machine acts)
births_stay_before n cap machine acts once born =
    all_early (run_of n cap machine acts).clock (account n (run_of n cap machine acts))
    (account-run_of (is_late (run_of n cap machine acts).clock) n cap machine acts
    ∙ (ap (λ k. amount (is_late k) n (state_left n cap machine acts)) (clock-run_of n cap machine acts)
    ∙ (run_books n cap (opened n machine) acts (opened_books n machine once born)).born))

pub tags_stay_apart : (n cap : ℕ) (machine : Machine) (acts : List Act) → HasGoodTags n machine
    → HasGoodTags n (run_of n cap machine acts)
tags_stay_apart n cap machine acts h =
    record {
      once = tags_stay_once n cap machine acts h.once h.born;
      born =
          births_stay_before n cap machine acts h.once h.born;
    }
