-- How a machine routes is kept by every run.
use Rattle.std.proofs.Common.{◌≡◌, ℕ, List, [], ◌∷◌, refl, ◌∙◌}
use Rattle.cm_model.specs.declared.act.Act.{Act}
use Rattle.cm_model.specs.Steps.{Step, Instruct, Look, Inject, Cross, Deliver, all_steps}
use Rattle.cm_model.specs.Cycle.{State, after_injection, after_delivery, state_after, state_after_all}
use Rattle.cm_model.specs.Machine.{Machine, opened, closed, run_of}

routing-state_after : (n cap : ℕ) (state : State) (step : Step) → (state_after n cap state step).routing ≡ state.routing
unfolding after_injection after_delivery
routing-state_after n cap state (Instruct nano) = refl
routing-state_after n cap state Look = refl
routing-state_after n cap state Inject = refl
routing-state_after n cap state (Cross d) = refl
routing-state_after n cap state Deliver = refl

routing-state_after_all : (n cap : ℕ) (state : State) (steps : List Step)
    → (state_after_all n cap state steps).routing ≡ state.routing
routing-state_after_all n cap state [] = refl
routing-state_after_all n cap state (step ∷ steps) =
    routing-state_after_all n cap (state_after n cap state step) steps ∙ routing-state_after n cap state step

pub routing-run_of : (n cap : ℕ) (machine : Machine) (acts : List Act)
    → (run_of n cap machine acts).routing ≡ machine.routing
unfolding run_of closed opened
routing-run_of n cap machine acts = routing-state_after_all n cap (opened n machine) (all_steps n acts)
