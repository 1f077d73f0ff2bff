-- The account over a whole run.
use Rattle.std.proofs.Common.{◌≡◌, ℕ, zero, suc, ◌+◌, ◌<◌, ◌≤◌, ◌^◌, Bool, true, false, not, List, [], ◌∷◌, ◌++◌}
use Rattle.std.proofs.Common.{length, drop, map, refl, sym, ◌∙◌, ap, ⊎_elim, arith, append_assoc}
use Rattle.std.proofs.lemmas.Bool.{cases_Bool}
use Rattle.std.proofs.lemmas.List.{append-nil, drop_at}
use Rattle.std.proofs.lemmas.List.Elements.{filter_map-append}
use Rattle.std.proofs.lemmas.List.Sums.{sum_by-append}
use Rattle.std.specs.List.{filter_map, flat_map, count_by, range_with_len}
use Rattle.cm_model.specs.declared.act.Nano.{Nano}
use Rattle.cm_model.specs.declared.act.Act.{Act}
use Rattle.cm_model.specs.declared.act.Act.TheVariants as act
use Rattle.cm_model.specs.declared.message.Message.{Message}
use Rattle.cm_model.specs.declared.message.Event.{Event}
use Rattle.cm_model.specs.declared.message.Event.TheVariants.{Injected, Delivered}
use Rattle.cm_model.specs.Array.{chip_at, nth_or_nil}
use Rattle.cm_model.specs.Router.{Standing, leaves, after_dimension}
use Rattle.cm_model.specs.Letters.{messages_sent}
use Rattle.cm_model.specs.Steps.{Step, Instruct, Look, Inject, Cross, Deliver, IsStep, steps_of, all_steps}
use Rattle.cm_model.specs.Cycle.{State, taken_at, new_record, new_records, after_injection, is_delivered, delivered_at}
use Rattle.cm_model.specs.Cycle.{after_delivery, state_after, state_after_all}
use Rattle.cm_model.specs.Machine.{Machine, records_from, opened, closed, run_of}
use Rattle.cm_model.specs.Buffers.{after_act}
use Rattle.cm_model.specs.Account.{Triple, standing_triple, delivered_triple, injected_triple, account_at, account}
use Rattle.cm_model.specs.Account.{new_events, newly_injected, all_injected, SameLines, HasLines}
use Rattle.cm_model.proofs.Each.{get_or-each_below}
use Rattle.cm_model.proofs.Flips.{across_below}
use Rattle.cm_model.proofs.Crossing.{step_of_record}
use Rattle.cm_model.proofs.Opening.{buffer-opened, nth_or_nil-closed}
use Rattle.cm_model.proofs.Counting.{AllInCube, sum_by-plus, sum_by-flat_map, sum_by-range}
use Rattle.cm_model.proofs.Conserving.{one, chips_of, injected_count, amount, account-closed, amount-after_injection}
use Rattle.cm_model.proofs.Conserving.{injected-after_injection, standing_count-after_dimension, AllInCube-filter}
use Rattle.cm_model.proofs.Conserving.{amount-after_delivery, injected-after_delivery}

-- ---- records stay in the cube

pub AllInCube-append : (n : ℕ) (xs ys : List Standing) → AllInCube n xs → AllInCube n ys → AllInCube n (xs ++ ys)
AllInCube-append n [] ys h k = k
AllInCube-append n (x ∷ xs) ys h k = (h.0, AllInCube-append n xs ys h.1 k)

AllInCube-gathered : (n : ℕ) (f : ℕ → List Standing) (a k : ℕ) → ((c : ℕ) → c < a + k → AllInCube n (f c))
    → AllInCube n (flat_map f (range_with_len a k))
AllInCube-gathered n f a zero h = tt
AllInCube-gathered n f a (suc k) h =
    AllInCube-append n (f a) (flat_map f (range_with_len (a + 1) k)) (h a (omega arith))
    (AllInCube-gathered n f (a + 1) k (λ c l. h c (omega arith)))

AllInCube-new : (n : ℕ) (state : State) (c : ℕ) (ps : List ℕ) → c < 2 ^ n → AllInCube n (map (new_record n state c) ps)
AllInCube-new n state c [] l = tt
AllInCube-new n state c (p ∷ ps) l = (l, AllInCube-new n state c ps l)

AllInCube-records : (n c i : ℕ) (ms : List Message) → c < 2 ^ n → AllInCube n (records_from c i ms)
AllInCube-records n c i [] l = tt
AllInCube-records n c i (m ∷ ms) l = (l, AllInCube-records n c (i + 1) ms l)

pub AllInCube-opened : (n : ℕ) (machine : Machine) → AllInCube n (opened n machine).standing
unfolding opened
AllInCube-opened n machine =
    AllInCube-gathered n (λ c. records_from c 0 (nth_or_nil machine.buffers c)) 0 (2 ^ n)
    (λ c l. AllInCube-records n c 0 (nth_or_nil machine.buffers c) (omega arith))

AllInCube-crossed : (n d cycle : ℕ) (leaves : Standing → Bool) (set : List Standing) → d < n → AllInCube n set
    → AllInCube n (map (step_of_record leaves d cycle) set)
AllInCube-crossed n d cycle leaves [] below h = tt
AllInCube-crossed n d cycle leaves (r ∷ set) below h =
    ⊎_elim (λ (e : leaves r ≡ true). rw e
    (across_below n d r.chip below h.0, AllInCube-crossed n d cycle leaves set below h.1))
    (λ (e : leaves r ≡ false). rw e (h.0, AllInCube-crossed n d cycle leaves set below h.1)) (cases_Bool (leaves r))

-- ---- steps of a cube

abbrev pub AreSteps : ℕ → List Step → Type 0
AreSteps n [] = Unit {0}
AreSteps n (step ∷ steps) = IsStep n step × AreSteps n steps

pub AreSteps-append : (n : ℕ) (xs ys : List Step) → AreSteps n xs → AreSteps n ys → AreSteps n (xs ++ ys)
AreSteps-append n [] ys h k = k
AreSteps-append n (x ∷ xs) ys h k = (h.0, AreSteps-append n xs ys h.1 k)

pub AreSteps-crossings : (n a k : ℕ) → a + k ≤ n → AreSteps n (map Cross (range_with_len a k))
AreSteps-crossings n a zero h = tt
AreSteps-crossings n a (suc k) h = (omega arith, AreSteps-crossings n (a + 1) k (omega arith))

pub AreSteps-act : (n : ℕ) (a : Act) → AreSteps n (steps_of n a)
AreSteps-act n (act.Nano nano) = (tt, tt)
AreSteps-act n act.Sense = (tt, tt)
AreSteps-act n act.Cycle = (
  tt,
  AreSteps-append n (map Cross (range_with_len 0 n)) (Deliver ∷ []) (AreSteps-crossings n 0 n (omega arith)) (tt, tt),
)

pub AreSteps-all : (n : ℕ) (acts : List Act) → AreSteps n (all_steps n acts)
AreSteps-all n [] = tt
AreSteps-all n (a ∷ acts) = AreSteps-append n (steps_of n a) (all_steps n acts) (AreSteps-act n a) (AreSteps-all n acts)

-- ---- one state follows another

-- the second log is the first and more
abbrev pub Extends : List Event → List Event → Type 0
Extends before after = (more : List Event) × (after ≡ before ++ more)

pub record Follows (n : ℕ) (a b : State) : Type 0 where
  pub cube : AllInCube n b.standing
  pub balance : (p : Triple → Bool)
      → amount p n b + injected_count p n a.logs ≡ amount p n a + injected_count p n b.logs
  pub grows : (c : ℕ) → c < 2 ^ n → Extends (nth_or_nil a.logs c) (nth_or_nil b.logs c)

same_log : (xs : List Event) → Extends xs xs
same_log xs = ([], sym (append-nil xs))

follows_itself : (n : ℕ) (a : State) → AllInCube n a.standing → Follows n a a
follows_itself n a h = record { cube = h; balance = λ p. refl; grows = λ c l. same_log (nth_or_nil a.logs c) }

follows_on : (n : ℕ) (a b c : State) → Follows n a b → Follows n b c → Follows n a c
follows_on n a b c h k = record {
  cube = k.cube;
  balance = λ p. omega (arith, h.balance p, k.balance p);
  grows = λ x l. (
    (h.grows x l).0 ++ (k.grows x l).0,
    (k.grows x l).1 ∙ (ap (λ z. z ++ (k.grows x l).0) (h.grows x l).1
        ∙ append_assoc (nth_or_nil a.logs x) (h.grows x l).0 (k.grows x l).0),
  );
}

after_injection_follows : (n cap : ℕ) (state : State) → AllInCube n state.standing
    → Follows n state (after_injection n cap state)
unfolding after_injection
after_injection_follows n cap state h = record {
  cube = AllInCube-append n state.standing (flat_map (new_records n cap state) (chips_of n)) h
      (AllInCube-gathered n (new_records n cap state) 0 (2 ^ n)
      (λ c l. AllInCube-new n state c (taken_at cap state c) (omega arith)));
  balance = λ p. omega (arith, amount-after_injection p n cap state, injected-after_injection p n cap state);
  grows = λ c l. (
    map Injected (messages_sent n state.clock c (chip_at state.chips c) (taken_at cap state c)),
    get_or-each_below (2 ^ n)
        (λ b. nth_or_nil state.logs b ++ map Injected
        (messages_sent n state.clock b (chip_at state.chips b) (taken_at cap state b))) c [] l,
  );
}

after_dimension_follows : (n cap d : ℕ) (state : State) → d < n → AllInCube n state.standing
    → Follows n state (state_after n cap state (Cross d))
unfolding amount after_dimension
after_dimension_follows n cap d state below h = record {
  cube = AllInCube-crossed n d state.cycle (leaves state.routing cap d state.standing) state.standing below h;
  balance = λ p. omega (arith, standing_count-after_dimension p state.routing cap d state.cycle state.standing);
  grows = λ c l. same_log (nth_or_nil state.logs c);
}

after_delivery_follows : (n : ℕ) (state : State) → AllInCube n state.standing → Follows n state (after_delivery n state)
unfolding after_delivery
after_delivery_follows n state h = record {
  cube = AllInCube-filter n (λ r. not (is_delivered state.chips state.standing r)) state.standing h;
  balance = λ p. omega (arith, amount-after_delivery p n state h, injected-after_delivery p n state);
  grows = λ c l. (
    map (λ m. Delivered c m) (delivered_at state.chips state.standing c),
    get_or-each_below (2 ^ n)
        (λ b. nth_or_nil state.logs b ++ map (λ m. Delivered b m) (delivered_at state.chips state.standing b)) c [] l,
  );
}

state_after_follows : (n cap : ℕ) (state : State) (step : Step) → IsStep n step → AllInCube n state.standing
    → Follows n state (state_after n cap state step)
unfolding amount
state_after_follows n cap state (Instruct nano) s h =
    record { cube = h; balance = λ p. refl; grows = λ c l. same_log (nth_or_nil state.logs c) }
state_after_follows n cap state Look s h = follows_itself n state h
state_after_follows n cap state Inject s h = after_injection_follows n cap state h
state_after_follows n cap state (Cross d) s h = after_dimension_follows n cap d state s h
state_after_follows n cap state Deliver s h = after_delivery_follows n state h

pub state_after_all_follows : (n cap : ℕ) (state : State) (steps : List Step) → AreSteps n steps
    → AllInCube n state.standing → Follows n state (state_after_all n cap state steps)
state_after_all_follows n cap state [] s h = follows_itself n state h
state_after_all_follows n cap state (step ∷ steps) s h =
    let next : Follows n state (state_after n cap state step) = state_after_follows n cap state step s.0 h in
    follows_on n state (state_after n cap state step) (state_after_all n cap (state_after n cap state step) steps) next
    (state_after_all_follows n cap (state_after n cap state step) steps s.1 next.cube)

-- ---- a run

-- the state that a run ends in
abbrev pub state_left : ℕ → ℕ → Machine → List Act → State
state_left n cap machine acts = state_after_all n cap (opened n machine) (all_steps n acts)

pub run_follows : (n cap : ℕ) (machine : Machine) (acts : List Act)
    → Follows n (opened n machine) (state_left n cap machine acts)
run_follows n cap machine acts =
    state_after_all_follows n cap (opened n machine) (all_steps n acts) (AreSteps-all n acts)
    (AllInCube-opened n machine)

grown_log : (n cap : ℕ) (machine : Machine) (acts : List Act) (c : ℕ) → c < 2 ^ n
    → Extends (nth_or_nil machine.logs c) (nth_or_nil (state_left n cap machine acts).logs c)
unfolding opened
grown_log n cap machine acts c l = (run_follows n cap machine acts).grows c l

-- the logs only grow
pub logs_grow : (n cap : ℕ) (machine : Machine) (acts : List Act) (c : ℕ) → c < 2 ^ n →
    nth_or_nil (run_of n cap machine acts).logs c ≡ nth_or_nil machine.logs c ++ new_events machine
    (run_of n cap machine acts) c
unfolding run_of closed
logs_grow n cap machine acts c l =
    let grown : Extends (nth_or_nil machine.logs c) (nth_or_nil (state_left n cap machine acts).logs c) =
    grown_log n cap machine acts c l in
    grown.1 ∙ ap (λ z. nth_or_nil machine.logs c ++ z)
    (sym (ap (drop (length (nth_or_nil machine.logs c))) grown.1
    ∙ drop_at (nth_or_nil machine.logs c) grown.0 (length (nth_or_nil machine.logs c)) refl))

-- what was injected before and what is new is all that was injected
injected_grows : (p : Triple → Bool) (n cap : ℕ) (machine : Machine) (acts : List Act) →
    injected_count p n (run_of n cap machine acts).logs ≡ injected_count p n machine.logs + count_by p
    (newly_injected n machine (run_of n cap machine acts))
unfolding newly_injected
injected_grows p n cap machine acts =
    let after : Machine = run_of n cap machine acts in
    sum_by-range (λ c. count_by p (filter_map injected_triple (nth_or_nil after.logs c)))
    (λ c. count_by p (filter_map injected_triple (nth_or_nil machine.logs c)) + count_by p
    (filter_map injected_triple (new_events machine after c))) 0 (2 ^ n)
    (λ c k l. ap (λ z. count_by p (filter_map injected_triple z)) (logs_grow n cap machine acts c (omega arith))
    ∙ (ap (count_by p) (filter_map-append injected_triple (nth_or_nil machine.logs c) (new_events machine after c))
    ∙ sum_by-append (one p) (filter_map injected_triple (nth_or_nil machine.logs c))
    (filter_map injected_triple (new_events machine after c))))
    ∙ (sum_by-plus (λ c. count_by p (filter_map injected_triple (nth_or_nil machine.logs c)))
    (λ c. count_by p (filter_map injected_triple (new_events machine after c))) (chips_of n)
    ∙ ap (λ k. injected_count p n machine.logs + k)
    (sym (sum_by-flat_map (one p) (λ c. filter_map injected_triple (new_events machine after c)) (chips_of n))))

account_at-same : (n : ℕ) (machine : Machine) (c : ℕ) → c < 2 ^ n
    → account_at machine c ≡ account_at (closed n (opened n machine)) c
unfolding closed opened
account_at-same n machine c l =
    ap (λ ms. map (standing_triple c) ms ++ filter_map delivered_triple (nth_or_nil machine.logs c))
    (sym (nth_or_nil-closed n (opened n machine) c l ∙ buffer-opened n machine c l))

account-same : (p : Triple → Bool) (n : ℕ) (machine : Machine)
    → count_by p (account n machine) ≡ count_by p (account n (closed n (opened n machine)))
unfolding account
account-same p n machine =
    sum_by-flat_map (one p) (account_at machine) (chips_of n)
    ∙ (sum_by-range (λ c. count_by p (account_at machine c))
    (λ c. count_by p (account_at (closed n (opened n machine)) c)) 0 (2 ^ n)
    (λ c h l. ap (count_by p) (account_at-same n machine c (omega arith)))
    ∙ sym (sum_by-flat_map (one p) (account_at (closed n (opened n machine))) (chips_of n)))

-- how many lines of a machine's account pass
pub account-opened : (p : Triple → Bool) (n : ℕ) (machine : Machine)
    → count_by p (account n machine) ≡ amount p n (opened n machine)
account-opened p n machine = account-same p n machine
    ∙ account-closed p n (opened n machine) (AllInCube-opened n machine)

pub account-run_of : (p : Triple → Bool) (n cap : ℕ) (machine : Machine) (acts : List Act)
    → count_by p (account n (run_of n cap machine acts)) ≡ amount p n (state_left n cap machine acts)
unfolding run_of
account-run_of p n cap machine acts =
    account-closed p n (state_left n cap machine acts) (run_follows n cap machine acts).cube

injected-opened : (p : Triple → Bool) (n : ℕ) (machine : Machine)
    → injected_count p n (opened n machine).logs ≡ injected_count p n machine.logs
unfolding opened
injected-opened p n machine = refl

injected-run_of : (p : Triple → Bool) (n cap : ℕ) (machine : Machine) (acts : List Act)
    → injected_count p n (state_left n cap machine acts).logs ≡ injected_count p n (run_of n cap machine acts).logs
unfolding run_of closed
injected-run_of p n cap machine acts = refl

-- the account after a run is that before it, and the lines of what was injected
pub account_is_conserved : (n cap : ℕ) (machine : Machine) (acts : List Act)
    → SameLines (account n (run_of n cap machine acts))
    (account n machine ++ newly_injected n machine (run_of n cap machine acts))
account_is_conserved n cap machine acts p =
    omega (
      arith,
      account-run_of p n cap machine acts,
      (run_follows n cap machine acts).balance p,
      account-opened p n machine,
      injected-opened p n machine,
      injected-run_of p n cap machine acts,
      injected_grows p n cap machine acts,
      sum_by-append (one p) (account n machine) (newly_injected n machine (run_of n cap machine acts)),
    )

pub account-nano : (n cap : ℕ) (machine : Machine) (nano : Nano)
    → account n (after_act n cap machine (act.Nano nano)) ≡ account n machine
unfolding account
account-nano n cap machine nano = refl

all_injected-count : (p : Triple → Bool) (n : ℕ) (machine : Machine)
    → count_by p (all_injected n machine) ≡ injected_count p n machine.logs
unfolding all_injected
all_injected-count p n machine =
    sum_by-flat_map (one p) (λ c. filter_map injected_triple (nth_or_nil machine.logs c)) (chips_of n)

-- what was injected goes on to stand in the account
pub injected_stand_in_the_account : (n cap : ℕ) (machine : Machine) (acts : List Act) →
    HasLines (all_injected n machine) (account n machine)
    → HasLines (all_injected n (run_of n cap machine acts)) (account n (run_of n cap machine acts))
injected_stand_in_the_account n cap machine acts h p =
    omega (
      arith,
      h p,
      all_injected-count p n machine,
      all_injected-count p n (run_of n cap machine acts),
      injected_grows p n cap machine acts,
      account_is_conserved n cap machine acts p,
      sum_by-append (one p) (account n machine) (newly_injected n machine (run_of n cap machine acts)),
    )
