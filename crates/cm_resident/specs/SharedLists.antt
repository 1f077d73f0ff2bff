-- A list of acts as it is shared out among workers. Ours.
use Rattle.std.specs.Prelude.{◌≡◌, ℕ, ◌-◌, ◌/◌, ◌<◌, ◌≤◌, ◌^◌, IsFalse}
use Rattle.cm_array.specs.Acts.{cycles_in, is_long}
use Rattle.cm_subcube.specs.Rounds.{rounds_of}
use Rattle.cm_turns.specs.Lanes.{Run, rounds_in}
use Rattle.cm_resident.specs.declared.shared_list.SharedList.{SharedList}

-- for a machine of n dimensions: its rounds and its petit cycles are as it says, and each worker has a block
pub record IsListFor (n : ℕ) (list : SharedList) : Type 0 where
  pub dimension : n ≤ 12
  pub within : list.k ≤ n - n / 2
  pub some : 0 < list.workers
  pub enough : list.workers ≤ 2 ^ list.k
  pub few : list.workers ≤ 64
  pub long : IsFalse (is_long list.acts.now)
  pub rounds : list.rounds.now ≡ rounds_of n list.k list.acts.now
  pub cycles : list.cycles ≡ cycles_in list.acts.now

-- a run that is the one of a list: its acts and its rounds are those of the list, and each worker has a block
pub record IsRunOfList (run : Run) (list : SharedList) : Type 0 where
  pub k_is : run.k ≡ list.k
  pub within : run.k ≤ run.n - run.n / 2
  pub enough : list.workers ≤ 2 ^ run.k
  pub acts_are : list.acts.now ≡ run.acts
  pub rounds_are : list.rounds.now ≡ rounds_in run
