-- A worker of a team: what it is before and after a run. Ours.
use Rattle.std.specs.Prelude.{◌≡◌, ℕ, ◌<◌, List, Some, length, get_or, slice_get}
use Rattle.cm_model.specs.declared.act.Act.{Act}
use Rattle.cm_blocks.specs.Parts.{block}
use Rattle.cm_blocks.specs.Parcels.{Parcel}
use Rattle.cm_subcube.specs.declared.round.Round.{Round}
use Rattle.cm_subcube.specs.Blocks.{BlockView}
use Rattle.cm_board.specs.Courses.{Course}
use Rattle.cm_gates.specs.Gates.{HasSeen}
use Rattle.cm_turns.specs.declared.worker.Worker.{Worker}
use Rattle.cm_turns.specs.Lanes.{Run, before, rounds_in}
use Rattle.cm_turns.specs.Standing.{block_number, IsWorkerBefore, IsUnused}

-- an unused worker of a team of so many for a run
pub record IsOfTeam (run : Run) (count : ℕ) (worker : Worker) : Type 0 where
  pub k_is : worker.k ≡ run.k
  pub acts_are : worker.acts.items ≡ run.acts
  pub rounds_are : worker.rounds.items ≡ rounds_in run
  pub unused : IsUnused run count worker.id worker.blocks.items worker.sends.items worker.gets.items

-- an unused worker of some team for some run
pub record IsOfSome (worker : Worker) : Type 0 where
  pub run : Run
  pub count : ℕ
  pub of : IsOfTeam run count worker

-- the blocks of worker w of so many, after the run
pub record AreDone (run : Run) (count w many : ℕ) (blocks : List BlockView) : Type 0 where
  pub len : length blocks ≡ many
  pub each : (i : ℕ) (d : BlockView) → i < many
      → (get_or blocks i d).kept.part ≡ block run.n run.k (block_number count w i) (before run (length (rounds_in run)))

-- a worker of some team stands before this round
pub record IsBeforeRound (acts : List Act) (k r w : ℕ) (round : Round) (blocks : List BlockView)
    (sends gets : List (Course Parcel)) : Type 0 where
  pub run : Run
  pub count : ℕ
  pub acts_are : acts ≡ run.acts
  pub k_is : k ≡ run.k
  pub round_is : slice_get (rounds_in run) r ≡ Some round
  pub at : IsWorkerBefore run r count w blocks sends gets

-- a worker left these blocks: of whatever team it was, they are done
abbrev pub HasWorked : Worker → List BlockView → Type 0
HasWorked worker blocks =
    (run : Run) (count : ℕ) → IsOfTeam run count worker → AreDone run count worker.id (length worker.blocks.items) blocks

-- who looks saw worker w of so many before round r of a run
abbrev pub HasSeenOf : (ℕ → ℕ → List BlockView → Type 0) → Run → ℕ → ℕ → ℕ → Type 0
HasSeenOf saw run count w r = HasSeen saw run.n run.k run.room run.machine run.acts r count w

-- who looks saw a worker before each round, of whatever team it was
abbrev pub HasPassed : (ℕ → ℕ → List BlockView → Type 0) → Worker → Type 0
HasPassed saw worker =
    (run : Run) (count : ℕ) → IsOfTeam run count worker
    → (r : ℕ) → r < length (rounds_in run) → HasSeenOf saw run count worker.id r
