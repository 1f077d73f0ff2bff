-- A team that is lined up before its threads are started. Ours.
use Rattle.std.specs.Prelude.{◌≡◌, ℕ, ◌<◌, List, length, get_or}
use Rattle.cm_model.specs.declared.act.Act.{Act}
use Rattle.cm_model.specs.Machine.{Machine}
use Rattle.cm_turns.specs.declared.worker.Worker.{Worker}
use Rattle.cm_resident.specs.declared.running.PendingWorker.{PendingWorker}
use Rattle.cm_turns.specs.Lanes.{Run}
use Rattle.cm_resident.specs.Teams.{IsTeam}

-- those that wait for their start words are a team of so many for a run, in order of their numbers
pub record AreLinedUp (run : Run) (count : ℕ) (readies : List PendingWorker) : Type 0 where
  pub team : List Worker
  pub is : IsTeam run count team
  pub len : length readies ≡ length team
  pub each : (w : ℕ) (d : PendingWorker) (e : Worker) → w < length team → (get_or readies w d).worker ≡ get_or team w e

-- for a run of this machine by some acts
pub record AreLinedUpForSome (n k room : ℕ) (machine : Machine) (readies : List PendingWorker) : Type 0 where
  pub acts : List Act
  pub count : ℕ
  pub of : AreLinedUp (record { n = n; k = k; room = room; machine = machine; acts = acts }) count readies
