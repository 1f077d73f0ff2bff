-- Laws of blocks, each the contract of a function of its name. Ours.
use Rattle.std.specs.Prelude.{◌≡◌, ℕ, ◌+◌, ◌*◌, ◌≤◌, ◌^◌, true, List, Some, None, slice_get}
use Rattle.cm_model.specs.declared.act.Act.{Act}
use Rattle.cm_model.specs.Each.{tabulate}
use Rattle.cm_model.specs.Steps.{Step, IsStep, Phase}
use Rattle.cm_model.specs.Machine.{Machine}
use Rattle.cm_model.specs.Keeping.{IsMachine}
use Rattle.cm_blocks.specs.Rounds.{is_round, rounds, steps_until, steps_between, steps_after_round}
use Rattle.cm_blocks.specs.Counts.{deliveries, events_in}
use Rattle.cm_blocks.specs.Parts.{Part, block}
use Rattle.cm_blocks.specs.Parcels.{due, sender}
use Rattle.cm_blocks.specs.Steps.{less}
use Rattle.cm_array.specs.Acts.{cycles_in}
use Rattle.cm_array.specs.Cuts.{joined, AreWhole}
use Rattle.cm_subcube.specs.Rounds.{kind_of, round_of, step_of}
use Rattle.cm_subcube.specs.Parcels.{SparesCuts}
use Rattle.cm_subcube.specs.Local.{local_after, IsRoundOf}

-- the 2 ^ k blocks of a machine, in their order
abbrev pub all_blocks : ℕ → ℕ → Machine → List Part
all_blocks n k machine = tabulate 0 (2 ^ k) (λ b. block n k b machine)

-- they are a whole machine, and that machine
pub record AreBlocksOf (n cap k : ℕ) (machine : Machine) : Type 0 where
  pub whole : AreWhole n cap (all_blocks n k machine)
  pub same : joined (all_blocks n k machine) ≡ machine

-- the 2 ^ k blocks of every machine, joined in their order, are that machine
abbrev pub BlocksAreJoined : Type 0
BlocksAreJoined = (n cap k : ℕ) (machine : Machine) → k ≤ n → IsMachine n cap machine → AreBlocksOf n cap k machine

-- a round, as callers get it, tells its step, and the steps between it and the next
pub record IsFollowed (n k r : ℕ) (acts : List Act) (phase : Phase) : Type 0 where
  pub step : step_of (round_of phase) ≡ phase.step
  pub is_step : IsStep n phase.step
  pub exchanges : is_round n k phase.step ≡ true
  pub between : steps_between n k acts r ≡ local_after n k acts (Some (round_of phase))
  pub round : IsRoundOf n k acts (round_of phase)

-- before the first round, and from each round to the next
pub record RoundsAreFollowed : Type 0 where
  pub first : (n k : ℕ) (acts : List Act) → steps_until n k acts 0 ≡ local_after n k acts None
  pub next : (n k r : ℕ) (acts : List Act) (phase : Phase) → slice_get (rounds n k acts) r ≡ Some phase
      → IsFollowed n k r acts phase

-- a count of steps, so many for each petit cycle of a run, is shared out among the steps from round to round
pub record IsSharedOut (count : List Step → ℕ) (each : ℕ) : Type 0 where
  pub first : (n k : ℕ) (acts : List Act)
      → count (local_after n k acts None) + count (steps_after_round n k acts 0) ≡ cycles_in acts * each
  pub next : (n k r : ℕ) (acts : List Act)
      → count (steps_between n k acts r) + count (steps_after_round n k acts (r + 1)) ≡ count (steps_after_round n k acts r)

-- so are the events that logs need room for, and the deliveries, at which the counter goes on
pub record LogsHaveRoom : Type 0 where
  pub events : (room : ℕ) → IsSharedOut (events_in room) (4 + room)
  pub counts : IsSharedOut deliveries 1

-- what a block has to get at a round has nothing for a chip whose wire is cut: nobody leaves over it at its other end
abbrev pub CutsAreSpared : Type 0
CutsAreSpared = (n cap k b : ℕ) (machine : Machine) (step : Step) → is_round n k step ≡ true
    → SparesCuts (kind_of step) (less cap step (block n k b machine))
    (due n cap step (block n k (sender n k step b) machine))
