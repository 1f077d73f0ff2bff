-- From round to round: the steps between two rounds are told alone, and after the last the run is over.
use Rattle.std.proofs.Common.{◌≡◌, ℕ, zero, suc, ◌+◌, ◌-◌, ◌/◌, ◌^◌, ◌<◌, ◌≤◌, Bool, true, false, cond, List, [], ◌∷◌}
use Rattle.std.proofs.Common.{◌++◌, length, Option, Some, None, refl, sym, ◌∙◌, ap, subst, ⊎_elim, arith}
use Rattle.std.proofs.lemmas.Bool.{cases_Bool, cond_both}
use Rattle.std.proofs.lemmas.List.{map-append}
use Rattle.std.specs.Prelude.{slice_get}
use Rattle.std.specs.List.{filter}
use Rattle.cm_model.specs.declared.act.Act.{Act}
use Rattle.cm_model.specs.Steps.{Step, IsStep, Phase, phases, steps_in}
use Rattle.cm_model.specs.Machine.{Machine, run_of}
use Rattle.cm_model.specs.Buffers.{after_step, after_steps}
use Rattle.cm_model.proofs.Accounting.{AreSteps, AreSteps-all}
use Rattle.cm_model.proofs.Parts.{steps_in-phases_from, run_of-phases}
use Rattle.cm_model.proofs.Runs.{after_steps-append}
use Rattle.cm_blocks.specs.Rounds.{is_round, rounds, until, beyond, steps_until, steps_between, before_round}
use Rattle.cm_blocks.specs.Parts.{block}
use Rattle.cm_blocks.specs.Parcels.{due, sender}
use Rattle.cm_blocks.specs.Steps.{part_after, part_after_all}
use Rattle.cm_blocks.proofs.Stepping.{block-step, block-local}

-- ---- lists cut at what passes a test

-- one round more: the element itself, and what stands between it and the next
one-more : {X : Type 0} (is : X → Bool) (r : ℕ) (xs : List X) (x : X) → slice_get (filter is xs) r ≡ Some x
    → until is (suc r) xs ≡ until is r xs ++ x ∷ until is 0 (beyond is r xs)
one-more is zero [] x h = absurd (let wrong : None ≡ Some x = h in cc)
one-more is (suc r) [] x h = absurd (let wrong : None ≡ Some x = h in cc)
one-more is zero (y ∷ xs) x h =
    ⊎_elim
    (λ (e : is y ≡ true).
    let here : slice_get (y ∷ filter is xs) 0 ≡ Some x =
    subst (λ (b : Bool). slice_get (cond b (y ∷ filter is xs) (filter is xs)) 0 ≡ Some x) e h in
    let same : y ≡ x = ap (or_else y) here in
    rw e (ap (λ z. z ∷ until is 0 xs) same))
    (λ (e : is y ≡ false).
    let there : slice_get (filter is xs) 0 ≡ Some x =
    subst (λ (b : Bool). slice_get (cond b (y ∷ filter is xs) (filter is xs)) 0 ≡ Some x) e h in
    rw e (ap (λ z. y ∷ z) (one-more is 0 xs x there)))
    (cases_Bool (is y))
  where
    or_else : {X : Type 0} → X → Option X → X
    or_else d (Some z) = z
    or_else d None = d
one-more is (suc r) (y ∷ xs) x h =
    ⊎_elim
    (λ (e : is y ≡ true).
    let there : slice_get (filter is xs) r ≡ Some x =
    subst (λ (b : Bool). slice_get (cond b (y ∷ filter is xs) (filter is xs)) (suc r) ≡ Some x) e h in
    rw e (ap (λ z. y ∷ z) (one-more is r xs x there)))
    (λ (e : is y ≡ false).
    let there : slice_get (filter is xs) (suc r) ≡ Some x =
    subst (λ (b : Bool). slice_get (cond b (y ∷ filter is xs) (filter is xs)) (suc r) ≡ Some x) e h in
    rw e (ap (λ z. y ∷ z) (one-more is (suc r) xs x there)))
    (cases_Bool (is y))

-- before a round that there is not stands all
no-more : {X : Type 0} (is : X → Bool) (xs : List X) → until is (length (filter is xs)) xs ≡ xs
no-more is [] = refl
no-more is (y ∷ xs) =
    ⊎_elim
    (λ (e : is y ≡ true). rw e (rw e (ap (λ z. y ∷ z) (no-more is xs))))
    (λ (e : is y ≡ false). rw e (by_count e (length (filter is xs)) (no-more is xs)))
    (cases_Bool (is y))
  where
    by_count : is y ≡ false → (count : ℕ) → until is count xs ≡ xs → until is count (y ∷ xs) ≡ y ∷ xs
    by_count e zero h = rw e (ap (λ z. y ∷ z) h)
    by_count e (suc count) h = rw e (ap (λ z. y ∷ z) h)

-- ---- steps of the cube

AreSteps-until : (n r : ℕ) (is : Phase → Bool) (xs : List Phase) → AreSteps n (steps_in xs)
    → AreSteps n (steps_in (until is r xs))
AreSteps-until n r is [] h = tt
AreSteps-until n zero is (x ∷ xs) h =
    ⊎_elim (λ (e : is x ≡ true). rw e tt) (λ (e : is x ≡ false). rw e (h.0, AreSteps-until n 0 is xs h.1))
    (cases_Bool (is x))
AreSteps-until n (suc r) is (x ∷ xs) h = (h.0, AreSteps-until n (cond (is x) r (suc r)) is xs h.1)

AreSteps-beyond : (n r : ℕ) (is : Phase → Bool) (xs : List Phase) → AreSteps n (steps_in xs)
    → AreSteps n (steps_in (beyond is r xs))
AreSteps-beyond n r is [] h = tt
AreSteps-beyond n zero is (x ∷ xs) h =
    ⊎_elim (λ (e : is x ≡ true). rw e h.1) (λ (e : is x ≡ false). rw e (AreSteps-beyond n 0 is xs h.1))
    (cases_Bool (is x))
AreSteps-beyond n (suc r) is (x ∷ xs) h = AreSteps-beyond n (cond (is x) r (suc r)) is xs h.1

AreSteps-phases : (n : ℕ) (acts : List Act) → AreSteps n (steps_in (phases n acts))
AreSteps-phases n acts = subst (λ (s : List Step). AreSteps n s)
    (sym (steps_in-phases_from n 0 acts)) (AreSteps-all n acts)

AreSteps-last : (n : ℕ) (xs : List Step) (step : Step) (ys : List Step) → AreSteps n (xs ++ step ∷ ys) → IsStep n step
AreSteps-last n [] step ys h = h.0
AreSteps-last n (x ∷ xs) step ys h = AreSteps-last n xs step ys h.1

-- ---- a block until the next round

local_steps : (n cap k b : ℕ) (machine : Machine) (xs : List Phase) → k ≤ n - n / 2 → b < 2 ^ k
    → AreSteps n (steps_in (until (λ phase. is_round n k phase.step) 0 xs)) →
    block n k b (after_steps n cap machine (steps_in (until (λ phase. is_round n k phase.step) 0 xs)))
    ≡ part_after_all n cap (steps_in (until (λ phase. is_round n k phase.step) 0 xs)) (block n k b machine)
local_steps n cap k b machine [] h l s = refl
local_steps n cap k b machine (x ∷ xs) h l s =
    let rest : List Phase = until (λ phase. is_round n k phase.step) 0 xs in
    cond_both (is_round n k x.step) [] (x ∷ rest)
    (λ (run : List Phase). AreSteps n (steps_in run) →
    block n k b (after_steps n cap machine (steps_in run)) ≡ part_after_all n cap (steps_in run) (block n k b machine))
    (λ e steps. refl)
    (λ e steps. local_steps n cap k b (after_step n cap machine x.step) xs h l steps.1
    ∙ ap (part_after_all n cap (steps_in rest)) (block-local n cap k b machine x.step h l steps.0 e))
    s

-- ---- rounds of a run

pub blocks_begin : (n cap k b : ℕ) (machine : Machine) (acts : List Act) → k ≤ n - n / 2 → b < 2 ^ k →
    block n k b (before_round n cap k machine acts 0)
    ≡ part_after_all n cap (steps_until n k acts 0) (block n k b machine)
unfolding before_round
blocks_begin n cap k b machine acts h l =
    local_steps n cap k b machine (phases n acts) h l
    (AreSteps-until n 0 (λ phase. is_round n k phase.step) (phases n acts) (AreSteps-phases n acts))

-- the steps until the next round: those until this one, its own, and those between
steps-more : (n k : ℕ) (acts : List Act) (r : ℕ) (phase : Phase) → slice_get (rounds n k acts) r ≡ Some phase
    → steps_until n k acts (suc r) ≡ steps_until n k acts r ++ phase.step ∷ steps_between n k acts r
steps-more n k acts r phase at =
    let is : Phase → Bool = λ p. is_round n k p.step in
    let run : List Phase = phases n acts in
    ap steps_in (one-more is r run phase at)
    ∙ map-append (λ (p : Phase). p.step) (until is r run) (phase ∷ until is 0 (beyond is r run))

pub blocks_go_on : (n cap k b r : ℕ) (machine : Machine) (acts : List Act) (phase : Phase) → k ≤ n - n / 2 → b < 2 ^ k
    → slice_get (rounds n k acts) r ≡ Some phase →
    block n k b (before_round n cap k machine acts (r + 1))
    ≡ part_after_all n cap (steps_between n k acts r)
    (part_after n cap phase.step
    (due n cap phase.step (block n k (sender n k phase.step b) (before_round n cap k machine acts r)))
    (block n k b (before_round n cap k machine acts r)))
unfolding before_round
blocks_go_on n cap k b r machine acts phase h l at =
    let is : Phase → Bool = λ p. is_round n k p.step in
    let run : List Phase = phases n acts in
    let before : List Step = steps_until n k acts r in
    let between : List Step = steps_between n k acts r in
    let start : Machine = after_steps n cap machine before in
    let number : r + 1 ≡ suc r = omega arith in
    let more : steps_until n k acts (suc r) ≡ before ++ phase.step ∷ between = steps-more n k acts r phase at in
    let whole : AreSteps n (before ++ phase.step ∷ between) =
    subst (λ (s : List Step). AreSteps n s) more (AreSteps-until n (suc r) is run (AreSteps-phases n acts)) in
    let own : IsStep n phase.step = AreSteps-last n before phase.step between whole in
    ap (λ (z : ℕ). block n k b (after_steps n cap machine (steps_until n k acts z))) number
    ∙ (ap (λ (s : List Step). block n k b (after_steps n cap machine s)) more
    ∙ (ap (block n k b) (after_steps-append n cap machine before (phase.step ∷ between))
    ∙ (local_steps n cap k b (after_step n cap start phase.step) (beyond is r run) h l
    (AreSteps-until n 0 is (beyond is r run) (AreSteps-beyond n r is run (AreSteps-phases n acts)))
    ∙ ap (part_after_all n cap between) (block-step n cap k b start phase.step h l own))))

pub rounds_end_the_run : (n cap k : ℕ) (machine : Machine) (acts : List Act) → length machine.buffers ≡ 2 ^ n →
    before_round n cap k machine acts (length (rounds n k acts)) ≡ run_of n cap machine acts
unfolding before_round
rounds_end_the_run n cap k machine acts long =
    ap (λ (run : List Phase). after_steps n cap machine (steps_in run))
    (no-more (λ phase. is_round n k phase.step) (phases n acts))
    ∙ sym (run_of-phases n cap machine acts long)
