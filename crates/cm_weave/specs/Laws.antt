-- Laws of runs as exchanges, each the contract of a function of its name. Ours.
use Rattle.std.specs.Prelude.{◌≡◌, ℕ, ◌-◌, ◌/◌, ◌<◌, ◌≤◌, ◌^◌, List, Some, slice_get}
use Rattle.cm_model.specs.declared.act.Act.{Act}
use Rattle.cm_model.specs.Machine.{Machine}
use Rattle.cm_model.specs.Steps.{Phase}
use Rattle.cm_blocks.specs.Rounds.{rounds}
use Rattle.cm_exchange.specs.declared.stand.Stand.{Stand}
use Rattle.cm_exchange.specs.declared.step.Step.{Step}
use Rattle.cm_exchange.specs.Lanes.{exchange_of, kind_number_of, giver}
use Rattle.cm_exchange.specs.Steps.{stage_of, stand_after}
use Rattle.cm_exchange.specs.Laws.{HasItsKinds}
use Rattle.cm_weave.specs.Parts.{part_at_stand, part_with}

-- each round of a run is of one of the kinds of its exchange, so that the laws of exchanges hold of it
abbrev pub RunsAreExchanges : Type 0
RunsAreExchanges = (n cap k : ℕ) (machine : Machine) (acts : List Act) → k ≤ n
    → HasItsKinds (exchange_of n cap k machine acts)

-- the steps of the exchange of a run lead each block from stage to stage, and from one round to the next
abbrev pub BlocksFollow : Type 0
BlocksFollow = (n cap k b : ℕ) (machine : Machine) (acts : List Act) (stand : Stand) (step : Step) (phase : Phase)
    → k ≤ n - n / 2 → b < 2 ^ k → slice_get (rounds n k acts) stand.round ≡ Some phase
    → stand.stage ≡ stage_of step →
    part_at_stand n cap k machine acts b (stand_after step stand)
    ≡ part_with n cap k acts step stand.round phase
    ((exchange_of n cap k machine acts).sent stand.round (giver k (kind_number_of n k phase.step) b))
    (part_at_stand n cap k machine acts b stand)
