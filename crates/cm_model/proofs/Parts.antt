-- A run at each of its steps: the set and the buffers go on telling one machine.
use Rattle.std.proofs.Common.{◌≡◌, ℕ, zero, suc, ◌+◌, ◌-◌, ◌<◌, ◌≤◌, ◌^◌, List, [], ◌∷◌, ◌++◌, length, map, take, refl}
use Rattle.std.proofs.Common.{sym, ◌∙◌, ap, subst, ⊎_elim, arith}
use Rattle.std.proofs.lemmas.Bool.{cases_lt}
use Rattle.std.proofs.lemmas.List.{map-append, take-append-le}
use Rattle.cm_model.specs.declared.act.Act.{Act}
use Rattle.cm_model.specs.declared.act.Act.TheVariants as act
use Rattle.cm_model.specs.Steps.{Step, Cross, Deliver, steps_of, all_steps, Phase, phases_of}
use Rattle.cm_model.specs.Steps.{phases_from, phases, steps_in}
use Rattle.cm_model.specs.Cycle.{State, after_injection, after_delivery, state_after, state_after_all}
use Rattle.cm_model.specs.Order.{queue}
use Rattle.cm_model.specs.Machine.{Machine, opened, closed, run_of}
use Rattle.cm_model.specs.Buffers.{machine_after_injection, machine_after_delivery, after_step, after_steps}
use Rattle.cm_model.specs.Buffers.{after_act, after_acts}
use Rattle.cm_model.specs.Keeping.{HasRoom}
use Rattle.cm_model.proofs.Order.{IsRising}
use Rattle.cm_model.proofs.Opening.{IsReady-opened}
use Rattle.cm_model.proofs.Rooms.{HasRoom-after_step}
use Rattle.cm_model.proofs.Runs.{run_of-acted, crossings, IsDue, IsRested, one_crossing, after_injection_due}
use Rattle.cm_model.proofs.Runs.{after_delivery_rested, after_act_rested, opened_rested}
use Rattle.cm_model.proofs.Runs.{state_after_all-append, after_steps-append}
use Rattle.cm_model.proofs.Accounting.{AreSteps, AreSteps-all}

-- ---- a beginning of a list

take_past : {X : Type 0} (xs ys : List X) (k : ℕ) → length xs ≤ k → take k (xs ++ ys) ≡ xs ++ take (k - length xs) ys
take_past [] ys k h = let e : k - 0 ≡ k = omega arith in ap (λ j. take j ys) (sym e)
take_past (x ∷ xs) ys zero h = absurd (omega arith)
take_past (x ∷ xs) ys (suc k) h =
    let e : k - length xs ≡ suc k - suc (length xs) = omega arith in
    ap (λ z. x ∷ z) (take_past xs ys k (omega arith) ∙ ap (λ j. xs ++ take j ys) e)

-- ---- the beginning of an act

-- the state is the machine, and the messages of each chip rise
record IsOne (n : ℕ) (state : State) (machine : Machine) : Type 0 where
  same : closed n state ≡ machine
  rising : (c : ℕ) → IsRising (queue c state.standing)

one-due : (n d : ℕ) (state : State) (machine : Machine) → IsDue n d state machine → IsOne n state machine
one-due n d state machine h = record { same = h.same; rising = h.ready.rising }

one-rested : (n : ℕ) (state : State) (machine : Machine) → IsRested n state machine → IsOne n state machine
one-rested n state machine h = record { same = h.same; rising = h.ready.rising }

-- so they are after these steps
abbrev AreOne : ℕ → ℕ → State → Machine → List Step → Type 0
AreOne n cap state machine steps = IsOne n (state_after_all n cap state steps) (after_steps n cap machine steps)

part_of_crossings : (n cap a len k : ℕ) (state : State) (machine : Machine) → a + len ≤ n → IsDue n a state machine
    → AreOne n cap state machine (take k (crossings a len ++ Deliver ∷ []))
part_of_crossings n cap a len zero state machine h due = one-due n a state machine due
part_of_crossings n cap a zero (suc zero) state machine h due =
    one-rested n (after_delivery n state) (machine_after_delivery n machine)
    (after_delivery_rested n a state machine due)
part_of_crossings n cap a zero (suc (suc k)) state machine h due =
    one-rested n (after_delivery n state) (machine_after_delivery n machine)
    (after_delivery_rested n a state machine due)
part_of_crossings n cap a (suc len) (suc k) state machine h due =
    part_of_crossings n cap (a + 1) len k (state_after n cap state (Cross a)) (after_step n cap machine (Cross a))
    (omega arith) (one_crossing n cap a state machine (omega arith) due)

part_of_act : (n cap k : ℕ) (state : State) (machine : Machine) (a : Act) → IsRested n state machine
    → AreOne n cap state machine (take k (steps_of n a))
part_of_act n cap zero state machine a h = one-rested n state machine h
part_of_act n cap (suc zero) state machine (act.Nano nano) h =
    one-rested n (state_after_all n cap state (steps_of n (act.Nano nano))) (after_act n cap machine (act.Nano nano))
    (after_act_rested n cap state machine (act.Nano nano) h)
part_of_act n cap (suc (suc k)) state machine (act.Nano nano) h =
    one-rested n (state_after_all n cap state (steps_of n (act.Nano nano))) (after_act n cap machine (act.Nano nano))
    (after_act_rested n cap state machine (act.Nano nano) h)
part_of_act n cap (suc zero) state machine act.Sense h = one-rested n state machine h
part_of_act n cap (suc (suc k)) state machine act.Sense h = one-rested n state machine h
part_of_act n cap (suc k) state machine act.Cycle h =
    part_of_crossings n cap 0 n k (after_injection n cap state) (machine_after_injection n cap machine) (omega arith)
    (after_injection_due n cap state machine h)

-- ---- the beginning of a run

part_of_acts : (n cap k : ℕ) (state : State) (machine : Machine) (acts : List Act) → IsRested n state machine
    → AreOne n cap state machine (take k (all_steps n acts))
part_of_acts n cap zero state machine acts h = one-rested n state machine h
part_of_acts n cap (suc k) state machine [] h = one-rested n state machine h
part_of_acts n cap (suc k) state machine (a ∷ acts) h =
    let steps : List Step = steps_of n a in
    let more : List Step = all_steps n acts in
    ⊎_elim
    (λ (l : suc k < length steps). subst (λ (s : List Step). AreOne n cap state machine s)
    (sym (take-append-le (suc k) steps more (omega arith))) (part_of_act n cap (suc k) state machine a h))
    (λ (l : length steps ≤ suc k).
    let rest : List Step = take (suc k - length steps) more in
    subst (λ (s : List Step). AreOne n cap state machine s) (sym (take_past steps more (suc k) l))
    (subst (λ (s : State). IsOne n s (after_steps n cap machine (steps ++ rest)))
    (sym (state_after_all-append n cap state steps rest))
    (subst (λ (m : Machine). IsOne n (state_after_all n cap (state_after_all n cap state steps) rest) m)
    (sym (after_steps-append n cap machine steps rest))
    (part_of_acts n cap (suc k - length steps) (state_after_all n cap state steps) (after_act n cap machine a) acts
    (after_act_rested n cap state machine a h)))))
    (cases_lt (suc k) (length steps))

-- after any number of steps of a run
pub steps_are_told : (n cap : ℕ) (machine : Machine) (acts : List Act) (count : ℕ) → length machine.buffers ≡ 2 ^ n →
    closed n (state_after_all n cap (opened n machine) (take count (all_steps n acts))) ≡ after_steps n cap machine
    (take count (all_steps n acts))
steps_are_told n cap machine acts count long =
    (part_of_acts n cap count (opened n machine) machine acts (opened_rested n machine long)).same

-- and of every machine, at each step, the messages of each chip rise
pub steps_rise : (n cap : ℕ) (machine : Machine) (acts : List Act) (count c : ℕ)
    → IsRising (queue c (state_after_all n cap (opened n machine) (take count (all_steps n acts))).standing)
steps_rise n cap machine acts count c =
    (part_of_acts n cap count (opened n machine) (closed n (opened n machine)) acts
    (record { ready = IsReady-opened n machine; same = refl })).rising c

-- ---- room at each step

pub AreSteps-take : (n k : ℕ) (steps : List Step) → AreSteps n steps → AreSteps n (take k steps)
AreSteps-take n zero steps h = tt
AreSteps-take n (suc k) [] h = tt
AreSteps-take n (suc k) (step ∷ steps) h = (h.0, AreSteps-take n k steps h.1)

HasRoom-after_steps : (n cap : ℕ) (machine : Machine) (steps : List Step) → AreSteps n steps → HasRoom n cap machine
    → HasRoom n cap (after_steps n cap machine steps)
HasRoom-after_steps n cap machine [] s h = h
HasRoom-after_steps n cap machine (step ∷ steps) s h =
    HasRoom-after_steps n cap (after_step n cap machine step) steps s.1 (HasRoom-after_step n cap machine step s.0 h)

pub HasRoom-at_each_step : (n cap : ℕ) (machine : Machine) (acts : List Act) (count : ℕ)
    → length machine.buffers ≡ 2 ^ n → HasRoom n cap machine →
    HasRoom n cap (closed n (state_after_all n cap (opened n machine) (take count (all_steps n acts))))
HasRoom-at_each_step n cap machine acts count long h =
    subst (λ (m : Machine). HasRoom n cap m) (sym (steps_are_told n cap machine acts count long))
    (HasRoom-after_steps n cap machine (take count (all_steps n acts))
    (AreSteps-take n count (all_steps n acts) (AreSteps-all n acts)) h)

-- ---- phases

steps_in-phases_of : (n at : ℕ) (one : Act) (steps : List Step)
    → steps_in (map (λ step. record { at = at; act = one; step = step }) steps) ≡ steps
steps_in-phases_of n at one [] = refl
steps_in-phases_of n at one (step ∷ steps) = ap (λ z. step ∷ z) (steps_in-phases_of n at one steps)

-- the phases of a run have its steps
pub steps_in-phases_from : (n at : ℕ) (acts : List Act) → steps_in (phases_from n at acts) ≡ all_steps n acts
steps_in-phases_from n at [] = refl
steps_in-phases_from n at (a ∷ acts) =
    map-append (λ (phase : Phase). phase.step) (phases_of n at a) (phases_from n (at + 1) acts)
    ∙ (ap (λ z. z ++ steps_in (phases_from n (at + 1) acts)) (steps_in-phases_of n at a (steps_of n a))
    ∙ ap (λ z. steps_of n a ++ z) (steps_in-phases_from n (at + 1) acts))

pub after_acts-steps : (n cap : ℕ) (machine : Machine) (acts : List Act)
    → after_acts n cap machine acts ≡ after_steps n cap machine (all_steps n acts)
after_acts-steps n cap machine [] = refl
after_acts-steps n cap machine (a ∷ acts) = after_acts-steps n cap (after_act n cap machine a) acts
    ∙ sym (after_steps-append n cap machine (steps_of n a) (all_steps n acts))

-- a run is the fold of its phases
pub run_of-phases : (n cap : ℕ) (machine : Machine) (acts : List Act) → length machine.buffers ≡ 2 ^ n
    → run_of n cap machine acts ≡ after_steps n cap machine (steps_in (phases n acts))
run_of-phases n cap machine acts long =
    run_of-acted n cap machine acts long
    ∙ (after_acts-steps n cap machine acts ∙ ap (after_steps n cap machine) (sym (steps_in-phases_from n 0 acts)))
