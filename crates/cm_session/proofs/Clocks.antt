-- The counter after a run: it grows by one with each petit cycle.
use Rattle.std.proofs.Common.{◌≡◌, ℕ, ◌+◌, cond, List, [], ◌∷◌, map, refl, ap, ◌∙◌, arith}
use Rattle.std.specs.List.{range_with_len}
use Rattle.std.proofs.lemmas.List.Sums.{sum_by-cons}
use Rattle.cm_model.specs.declared.act.Act.{Act}
use Rattle.cm_model.specs.declared.act.Act.TheVariants as act
use Rattle.cm_model.specs.Steps.{Cross, Deliver, steps_of, all_steps}
use Rattle.cm_model.specs.Cycle.{State, state_after_all, state_after, after_injection, after_delivery}
use Rattle.cm_model.specs.Machine.{Machine, run_of, opened, closed}
use Rattle.cm_model.proofs.Runs.{state_after_all-append}
use Rattle.cm_array.specs.Acts.{is_cycle, cycles_in}

clock-after_injection : (n cap : ℕ) (state : State) → (after_injection n cap state).clock ≡ state.clock
unfolding after_injection
clock-after_injection n cap state = refl

clock-after_delivery : (n : ℕ) (state : State) → (after_delivery n state).clock ≡ state.clock + 1
unfolding after_delivery
clock-after_delivery n state = refl

clock-crossings : (n cap : ℕ) (state : State) (ds : List ℕ)
    → (state_after_all n cap state (map Cross ds)).clock ≡ state.clock
clock-crossings n cap state [] = refl
clock-crossings n cap state (d ∷ ds) = clock-crossings n cap (state_after n cap state (Cross d)) ds

-- one act
clock-act : (n cap : ℕ) (state : State) (a : Act)
    → (state_after_all n cap state (steps_of n a)).clock ≡ state.clock + cond (is_cycle a) 1 0
clock-act n cap state (act.Nano nano) = omega arith
clock-act n cap state act.Sense = omega arith
clock-act n cap state act.Cycle =
    let injected : State = after_injection n cap state in
    let crossed : State = state_after_all n cap injected (map Cross (range_with_len 0 n)) in
    ap (λ (s : State). s.clock) (state_after_all-append n cap injected (map Cross (range_with_len 0 n)) (Deliver ∷ []))
    ∙ clock-after_delivery n crossed
    ∙ ap (λ (k : ℕ). k + 1) (clock-crossings n cap injected (range_with_len 0 n) ∙ clock-after_injection n cap state)

-- one act and others
pub cycles_in-cons : (a : Act) (acts : List Act) → cycles_in (a ∷ acts) ≡ cond (is_cycle a) 1 0 + cycles_in acts
cycles_in-cons a acts = sum_by-cons (λ b. cond (is_cycle b) 1 0) a acts

clock-acts : (n cap : ℕ) (state : State) (acts : List Act)
    → (state_after_all n cap state (all_steps n acts)).clock ≡ state.clock + cycles_in acts
clock-acts n cap state [] = omega arith
clock-acts n cap state (a ∷ acts) =
    let whole : (state_after_all n cap state (all_steps n (a ∷ acts))).clock
    ≡ (state_after_all n cap (state_after_all n cap state (steps_of n a)) (all_steps n acts)).clock =
    ap (λ (s : State). s.clock) (state_after_all-append n cap state (steps_of n a) (all_steps n acts)) in
    let rest : (state_after_all n cap (state_after_all n cap state (steps_of n a)) (all_steps n acts)).clock
    ≡ (state_after_all n cap state (steps_of n a)).clock + cycles_in acts =
    clock-acts n cap (state_after_all n cap state (steps_of n a)) acts in
    let one : (state_after_all n cap state (steps_of n a)).clock ≡ state.clock + cond (is_cycle a) 1 0 =
    clock-act n cap state a in
    let counted : cycles_in (a ∷ acts) ≡ cond (is_cycle a) 1 0 + cycles_in acts = cycles_in-cons a acts in
    omega (arith, whole, rest, one, counted)

-- the counter after a run
pub clock-run_of : (n cap : ℕ) (machine : Machine) (acts : List Act)
    → (run_of n cap machine acts).clock ≡ machine.clock + cycles_in acts
unfolding run_of closed opened
clock-run_of n cap machine acts = clock-acts n cap (opened n machine) acts
