-- A run is the fold of steps told by the buffers alone; so it may be cut in two.
use Rattle.std.proofs.Common.{◌≡◌, ℕ, zero, suc, ◌+◌, ◌<◌, ◌≤◌, ◌^◌, not, List, [], ◌∷◌, ◌++◌, length, map, refl, sym}
use Rattle.std.proofs.Common.{◌∙◌, ap, subst, arith}
use Rattle.std.proofs.lemmas.List.{length-map}
use Rattle.std.proofs.lemmas.List.Concat.{flat_map-append}
use Rattle.std.proofs.lemmas.Bool.Decides.{nat_tests}
use Rattle.std.specs.Prelude.{bit_xor}
use Rattle.std.specs.List.{range_with_len}
use Rattle.cm_model.specs.declared.act.Act.{Act}
use Rattle.cm_model.specs.declared.act.Act.TheVariants as act
use Rattle.cm_model.specs.declared.message.Event.TheVariants.{Injected, Delivered}
use Rattle.cm_model.specs.Array.{chip_at, nth_or_nil}
use Rattle.cm_model.specs.Wiring.{Way, way_of}
use Rattle.cm_model.specs.Router.{Since, Standing, standing_at, after_dimension}
use Rattle.cm_model.specs.Order.{queue, buffer}
use Rattle.cm_model.specs.Letters.{senders_taken, messages_sent, chip_after_injection, chip_after_delivery, can_receive}
use Rattle.cm_model.specs.Steps.{Step, Instruct, Cross, Deliver, steps_of, all_steps}
use Rattle.cm_model.specs.Cycle.{State, taken_at, after_injection, delivered_at, after_delivery}
use Rattle.cm_model.specs.Cycle.{is_delivered, state_after, state_after_all}
use Rattle.cm_model.specs.Machine.{Machine, opened, closed, run_of}
use Rattle.cm_model.specs.Buffers.{taken_in, sent_in, machine_after_injection, outgoing, buffer_after_dimension}
use Rattle.cm_model.specs.Buffers.{machine_after_dimension, delivered_in, machine_after_delivery}
use Rattle.cm_model.specs.OneChip.{delivered, kept}
use Rattle.cm_model.specs.Buffers.{after_step, after_steps, after_act, after_acts}
use Rattle.cm_model.proofs.Each.{length-tabulate, same_each_below}
use Rattle.cm_model.proofs.Flips.{across_below}
use Rattle.cm_model.proofs.Order.{IsRising, length-in_order}
use Rattle.cm_model.proofs.Leaving.{buffer-after_dimension}
use Rattle.cm_model.proofs.Readiness.{IsReady}
use Rattle.cm_model.proofs.Routing.{due_time, IsReady-after_dimension}
use Rattle.cm_model.proofs.Injecting.{cycle_begins, with_new, buffer-with_new, IsReady-with_new}
use Rattle.cm_model.proofs.Delivering.{undelivered, delivered_at_is, buffer-undelivered, IsReady-filter, later_ready}
use Rattle.cm_model.proofs.Opening.{IsReady-opened, closed-opened, nth_or_nil-closed}

-- ---- injection

length-buffer : (c : ℕ) (set : List Standing) → length (buffer c set) ≡ length (standing_at c set)
unfolding queue
length-buffer c set = length-map (queue c set) (λ r. r.message) ∙ length-in_order (standing_at c set)

taken_in-closed : (n cap : ℕ) (state : State) (c : ℕ) → c < 2 ^ n
    → taken_in cap (closed n state) c ≡ taken_at cap state c
unfolding closed
taken_in-closed n cap state c l =
    ap (λ k. senders_taken cap k (chip_at state.chips c)) (ap length (nth_or_nil-closed n state c l)
    ∙ length-buffer c state.standing)

sent_in-closed : (n cap : ℕ) (state : State) (c : ℕ) → c < 2 ^ n
    → sent_in n cap (closed n state) c ≡ messages_sent n state.clock c (chip_at state.chips c) (taken_at cap state c)
unfolding closed
sent_in-closed n cap state c l =
    ap (messages_sent n state.clock c (chip_at state.chips c)) (taken_in-closed n cap state c l)

closed-after_injection : (n cap : ℕ) (state : State) → IsReady (cycle_begins state.cycle) state.standing
    → closed n (after_injection n cap state) ≡ machine_after_injection n cap (closed n state)
unfolding closed after_injection machine_after_injection
closed-after_injection n cap state h =
    let chips = same_each_below [] (2 ^ n) (λ c. chip_after_injection (taken_at cap state c) (chip_at state.chips c))
    (λ c. chip_after_injection (taken_in cap (closed n state) c) (chip_at state.chips c))
    (λ c l. ap (λ ps. chip_after_injection ps (chip_at state.chips c)) (sym (taken_in-closed n cap state c l))) in
    let buffers = same_each_below [] (2 ^ n) (λ c. buffer c (with_new n cap state))
    (λ c. nth_or_nil (closed n state).buffers c ++ sent_in n cap (closed n state) c)
    (λ c l. buffer-with_new n cap state c h l
    ∙ (ap (λ z. z ++ messages_sent n state.clock c (chip_at state.chips c) (taken_at cap state c))
    (sym (nth_or_nil-closed n state c l))
    ∙ ap (λ z. nth_or_nil (closed n state).buffers c ++ z) (sym (sent_in-closed n cap state c l)))) in
    let logs = same_each_below [] (2 ^ n)
    (λ c. nth_or_nil state.logs c ++ map Injected
    (messages_sent n state.clock c (chip_at state.chips c) (taken_at cap state c)))
    (λ c. nth_or_nil state.logs c ++ map Injected (sent_in n cap (closed n state) c))
    (λ c l. ap (λ z. nth_or_nil state.logs c ++ map Injected z) (sym (sent_in-closed n cap state c l))) in
    λ i. record { chips = chips i; buffers = buffers i; logs = logs i; clock = state.clock; routing = state.routing }

-- ---- a dimension

closed-after_dimension : (n cap d : ℕ) (state : State) → d < n → IsReady (due_time d state.cycle) state.standing
    → closed n (state_after n cap state (Cross d)) ≡ machine_after_dimension n cap d (closed n state)
unfolding closed machine_after_dimension
closed-after_dimension n cap d state below h =
    let way : ℕ → Way = λ c. way_of state.routing c d in
    let buffers = same_each_below [] (2 ^ n)
    (λ c. buffer c (after_dimension state.routing cap d state.cycle state.standing))
    (λ c. buffer_after_dimension (way c) cap d (nth_or_nil (closed n state).buffers c)
    (outgoing (way (bit_xor c (2 ^ d))) cap d (nth_or_nil (closed n state).buffers (bit_xor c (2 ^ d)))))
    (λ c l. buffer-after_dimension state.routing cap d state.cycle c state.standing h.before (h.rising c)
    (h.rising (bit_xor c (2 ^ d)))
    ∙ (ap (λ z. buffer_after_dimension (way c) cap d z
    (outgoing (way (bit_xor c (2 ^ d))) cap d (buffer (bit_xor c (2 ^ d)) state.standing)))
    (sym (nth_or_nil-closed n state c l))
    ∙ ap (λ z. buffer_after_dimension (way c) cap d (nth_or_nil (closed n state).buffers c)
    (outgoing (way (bit_xor c (2 ^ d))) cap d z))
    (sym (nth_or_nil-closed n state (bit_xor c (2 ^ d)) (across_below n d c below l))))) in
    λ i. record { chips = state.chips; buffers = buffers i; logs = state.logs; clock = state.clock; routing = state.routing }

-- ---- delivery

delivered_in-closed : (n : ℕ) (state : State) (c : ℕ) → IsRising (queue c state.standing) → c < 2 ^ n
    → delivered_in (closed n state) c ≡ delivered_at state.chips state.standing c
unfolding closed
delivered_in-closed n state c h l =
    ap (delivered (can_receive (chip_at state.chips c)) []) (nth_or_nil-closed n state c l)
    ∙ sym (delivered_at_is state.chips state.standing c h)

closed-after_delivery : (n : ℕ) (top : Since) (state : State) → IsReady top state.standing
    → closed n (after_delivery n state) ≡ machine_after_delivery n (closed n state)
unfolding closed after_delivery machine_after_delivery
closed-after_delivery n top state h =
    let out : (c : ℕ) → c < 2 ^ n → delivered_at state.chips state.standing c ≡ delivered_in (closed n state) c =
    λ c l. sym (delivered_in-closed n state c (h.rising c) l) in
    let chips = same_each_below [] (2 ^ n)
    (λ c. chip_after_delivery (delivered_at state.chips state.standing c) (chip_at state.chips c))
    (λ c. chip_after_delivery (delivered_in (closed n state) c) (chip_at state.chips c))
    (λ c l. ap (λ ms. chip_after_delivery ms (chip_at state.chips c)) (out c l)) in
    let buffers = same_each_below [] (2 ^ n) (λ c. buffer c (undelivered state.chips state.standing))
    (λ c. kept (can_receive (chip_at state.chips c)) [] (nth_or_nil (closed n state).buffers c))
    (λ c l. buffer-undelivered state.chips state.standing c (h.rising c)
    ∙ ap (kept (can_receive (chip_at state.chips c)) []) (sym (nth_or_nil-closed n state c l))) in
    let logs = same_each_below [] (2 ^ n)
    (λ c. nth_or_nil state.logs c ++ map (λ m. Delivered c m) (delivered_at state.chips state.standing c))
    (λ c. nth_or_nil state.logs c ++ map (λ m. Delivered c m) (delivered_in (closed n state) c))
    (λ c l. ap (λ ms. nth_or_nil state.logs c ++ map (λ m. Delivered c m) ms) (out c l)) in
    λ i. record { chips = chips i; buffers = buffers i; logs = logs i; clock = state.clock + 1; routing = state.routing }

-- ---- lists of steps

pub state_after_all-append : (n cap : ℕ) (state : State) (xs ys : List Step)
    → state_after_all n cap state (xs ++ ys) ≡ state_after_all n cap (state_after_all n cap state xs) ys
state_after_all-append n cap state [] ys = refl
state_after_all-append n cap state (x ∷ xs) ys = state_after_all-append n cap (state_after n cap state x) xs ys

pub after_steps-append : (n cap : ℕ) (machine : Machine) (xs ys : List Step)
    → after_steps n cap machine (xs ++ ys) ≡ after_steps n cap (after_steps n cap machine xs) ys
after_steps-append n cap machine [] ys = refl
after_steps-append n cap machine (x ∷ xs) ys = after_steps-append n cap (after_step n cap machine x) xs ys

-- the crossings of so many dimensions from the first on
abbrev pub crossings : ℕ → ℕ → List Step
crossings first count = map Cross (range_with_len first count)

-- a state where dimension d is due, and the machine that it is
pub record IsDue (n d : ℕ) (state : State) (machine : Machine) : Type 0 where
  pub ready : IsReady (due_time d state.cycle) state.standing
  pub same : closed n state ≡ machine

pub one_crossing : (n cap d : ℕ) (state : State) (machine : Machine) → d < n → IsDue n d state machine
    → IsDue n (d + 1) (state_after n cap state (Cross d)) (after_step n cap machine (Cross d))
one_crossing n cap d state machine below h = record {
  ready = IsReady-after_dimension state.routing cap d state.cycle state.standing h.ready;
  same = closed-after_dimension n cap d state below h.ready ∙ ap (machine_after_dimension n cap d) h.same;
}

all_crossings : (n cap a k : ℕ) (state : State) (machine : Machine) → a + k ≤ n → IsDue n a state machine →
    IsDue n (a + k) (state_after_all n cap state (crossings a k)) (after_steps n cap machine (crossings a k))
all_crossings n cap a zero state machine h due = let e : a ≡ a + 0 = omega arith in
    subst (λ (z : ℕ). IsDue n z state machine) e due
all_crossings n cap a (suc k) state machine h due =
    let e : (a + 1) + k ≡ a + suc k = omega arith in
    subst (λ (z : ℕ). IsDue n z (state_after_all n cap (state_after n cap state (Cross a)) (crossings (a + 1) k))
    (after_steps n cap (after_step n cap machine (Cross a)) (crossings (a + 1) k))) e
    (all_crossings n cap (a + 1) k (state_after n cap state (Cross a)) (after_step n cap machine (Cross a))
    (omega arith) (one_crossing n cap a state machine (omega arith) due))

-- ---- acts

-- a state at the begin of a petit cycle, and the machine that it is
pub record IsRested (n : ℕ) (state : State) (machine : Machine) : Type 0 where
  pub ready : IsReady (cycle_begins state.cycle) state.standing
  pub same : closed n state ≡ machine

pub after_injection_due : (n cap : ℕ) (state : State) (machine : Machine) → IsRested n state machine
    → IsDue n 0 (after_injection n cap state) (machine_after_injection n cap machine)
unfolding after_injection
after_injection_due n cap state machine h = record {
  ready = IsReady-with_new n cap state h.ready;
  same = closed-after_injection n cap state h.ready ∙ ap (machine_after_injection n cap) h.same;
}

pub after_delivery_rested : (n d : ℕ) (state : State) (machine : Machine) → IsDue n d state machine
    → IsRested n (after_delivery n state) (machine_after_delivery n machine)
unfolding after_delivery
after_delivery_rested n d state machine h = record {
  ready = later_ready (undelivered state.chips state.standing) (due_time d state.cycle)
      (cycle_begins (state.cycle + 1)) (grind (arith, nat_tests))
      (IsReady-filter (λ r. not (is_delivered state.chips state.standing r)) (due_time d state.cycle) state.standing
      h.ready);
  same = closed-after_delivery n (due_time d state.cycle) state h.ready ∙ ap (machine_after_delivery n) h.same;
}

-- the state after an act is the machine after it
pub after_act_rested : (n cap : ℕ) (state : State) (machine : Machine) (a : Act) → IsRested n state machine
    → IsRested n (state_after_all n cap state (steps_of n a)) (after_act n cap machine a)
unfolding closed
after_act_rested n cap state machine (act.Nano nano) h =
    record { ready = h.ready; same = ap (λ (m : Machine). after_step n cap m (Instruct nano)) h.same }
after_act_rested n cap state machine act.Sense h = h
after_act_rested n cap state machine act.Cycle h =
    let routed : IsDue n (0 + n) (state_after_all n cap (after_injection n cap state) (crossings 0 n))
    (after_steps n cap (machine_after_injection n cap machine) (crossings 0 n)) =
    all_crossings n cap 0 n (after_injection n cap state) (machine_after_injection n cap machine) (omega arith)
    (after_injection_due n cap state machine h) in
    let done : IsRested n (after_delivery n (state_after_all n cap (after_injection n cap state) (crossings 0 n)))
    (machine_after_delivery n (after_steps n cap (machine_after_injection n cap machine) (crossings 0 n))) =
    after_delivery_rested n (0 + n) (state_after_all n cap (after_injection n cap state) (crossings 0 n))
    (after_steps n cap (machine_after_injection n cap machine) (crossings 0 n)) routed in
    subst (λ (s : State). IsRested n s (after_act n cap machine act.Cycle))
    (sym (state_after_all-append n cap (after_injection n cap state) (crossings 0 n) (Deliver ∷ [])))
    (subst (λ (m : Machine). IsRested n
    (after_delivery n (state_after_all n cap (after_injection n cap state) (crossings 0 n))) m)
    (sym (after_steps-append n cap (machine_after_injection n cap machine) (crossings 0 n) (Deliver ∷ []))) done)

-- ---- runs

pub after_acts_rested : (n cap : ℕ) (state : State) (machine : Machine) (acts : List Act) → IsRested n state machine
    → IsRested n (state_after_all n cap state (all_steps n acts)) (after_acts n cap machine acts)
after_acts_rested n cap state machine [] h = h
after_acts_rested n cap state machine (a ∷ acts) h =
    subst (λ (s : State). IsRested n s (after_acts n cap (after_act n cap machine a) acts))
    (sym (state_after_all-append n cap state (steps_of n a) (all_steps n acts)))
    (after_acts_rested n cap (state_after_all n cap state (steps_of n a)) (after_act n cap machine a) acts
    (after_act_rested n cap state machine a h))

-- the state of a machine that is handed over
pub opened_rested : (n : ℕ) (machine : Machine) → length machine.buffers ≡ 2 ^ n → IsRested n (opened n machine) machine
opened_rested n machine long = record { ready = IsReady-opened n machine; same = closed-opened n machine long }

-- a run is the fold of its acts, told by the buffers
pub run_of-acted : (n cap : ℕ) (machine : Machine) (acts : List Act) → length machine.buffers ≡ 2 ^ n
    → run_of n cap machine acts ≡ after_acts n cap machine acts
unfolding run_of
run_of-acted n cap machine acts long =
    (after_acts_rested n cap (opened n machine) machine acts (opened_rested n machine long)).same

pub length-buffers-run_of : (n cap : ℕ) (machine : Machine) (acts : List Act)
    → length (run_of n cap machine acts).buffers ≡ 2 ^ n
unfolding run_of closed
length-buffers-run_of n cap machine acts =
    length-tabulate 0 (2 ^ n) (λ c. buffer c (state_after_all n cap (opened n machine) (all_steps n acts)).standing)

-- a run cut in two: no machine needs to be of the right size for this
pub run_of-append : (n cap : ℕ) (machine : Machine) (acts more : List Act)
    → run_of n cap machine (acts ++ more) ≡ run_of n cap (run_of n cap machine acts) more
unfolding run_of
run_of-append n cap machine acts more =
    let half : State = state_after_all n cap (opened n machine) (all_steps n acts) in
    let rested : IsRested n half (closed n half) =
    record {
      ready = (after_acts_rested n cap (opened n machine) (closed n (opened n machine)) acts
          (record { ready = IsReady-opened n machine; same = refl })).ready;
      same = refl;
    } in
    ap (λ (steps : List Step). closed n (state_after_all n cap (opened n machine) steps))
    (flat_map-append (steps_of n) acts more)
    ∙ (ap (closed n) (state_after_all-append n cap (opened n machine) (all_steps n acts) (all_steps n more))
    ∙ ((after_acts_rested n cap half (closed n half) more rested).same
    ∙ sym (run_of-acted n cap (run_of n cap machine acts) more (length-buffers-run_of n cap machine acts))))

-- no act
pub run_of-nil : (n cap : ℕ) (machine : Machine) → length machine.buffers ≡ 2 ^ n → run_of n cap machine [] ≡ machine
run_of-nil n cap machine long = run_of-acted n cap machine [] long

-- one act
pub run_of-one : (n cap : ℕ) (machine : Machine) (a : Act) → length machine.buffers ≡ 2 ^ n
    → run_of n cap machine (a ∷ []) ≡ after_act n cap machine a
run_of-one n cap machine a long = run_of-acted n cap machine (a ∷ []) long

-- one act, and then others
pub run_of-cons : (n cap : ℕ) (machine : Machine) (a : Act) (acts : List Act) → length machine.buffers ≡ 2 ^ n
    → run_of n cap machine (a ∷ acts) ≡ run_of n cap (after_act n cap machine a) acts
run_of-cons n cap machine a acts long = run_of-append n cap machine (a ∷ []) acts
    ∙ ap (λ (m : Machine). run_of n cap m acts) (run_of-one n cap machine a long)

-- one act more
pub run_of_more : (n cap : ℕ) (machine : Machine) (acts : List Act) (a : Act)
    → run_of n cap machine (acts ++ a ∷ []) ≡ after_act n cap (run_of n cap machine acts) a
run_of_more n cap machine acts a = run_of-append n cap machine acts (a ∷ [])
    ∙ run_of-one n cap (run_of n cap machine acts) a (length-buffers-run_of n cap machine acts)
