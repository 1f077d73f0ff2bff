-- Laws of teams and of their lanes, each the contract of a function of its name. Ours.
use Rattle.std.specs.Prelude.{◌≡◌, ℕ, ◌<◌, ◌^◌, List, length, map, Vec}
use Rattle.std.specs.declared.alloc.Global.{Global}
use Rattle.cm_model.specs.Machine.{run_of}
use Rattle.cm_model.specs.Keeping.{IsMachine}
use Rattle.cm_array.specs.Cuts.{joined, AreWhole}
use Rattle.cm_subcube.specs.Blocks.{BlockView}
use Rattle.cm_gates.specs.Dealing.{AreDealt, AreShares}
use Rattle.cm_turns.specs.declared.worker.Worker.{Worker}
use Rattle.cm_exchange.specs.Lanes as exchange
use Rattle.cm_turns.specs.Lanes.{Run, dues, givers}
use Rattle.cm_resident.specs.Teams.{IsTeam, HaveWorked}

-- blocks in their order are a whole machine, that after a run
pub record AreMachineAfter (run : Run) (blocks : List BlockView) : Type 0 where
  pub whole : AreWhole run.n run.room (map (λ b. b.kept.part) blocks)
  pub same : joined (map (λ b. b.kept.part) blocks) ≡ run_of run.n run.room run.machine run.acts

-- what the workers of a team left are shares of the blocks, which in their order are the machine after the run
pub record LeaveTheirMachine (run : Run) (shares : List (Vec BlockView Global)) : Type 0 where
  pub are_shares : AreShares (length shares) (2 ^ run.k) shares
  pub machine : (blocks : List BlockView) → length blocks ≡ 2 ^ run.k → AreDealt (length shares) blocks shares
      → AreMachineAfter run blocks

-- so it is of every team that has worked
abbrev pub TeamsLeaveTheirMachine : Type 0
TeamsLeaveTheirMachine =
    (run : Run) (count : ℕ) (team : List Worker) (shares : List (Vec BlockView Global)) → 0 < count
    → IsMachine run.n run.room run.machine → IsTeam run count team → HaveWorked team shares
    → LeaveTheirMachine run shares

-- what the lane of block b for a place carries is what is due in the exchange of the run from that block in rounds of the
-- kind of this number, and from whom the block gets there is who gives to it
pub record AreOfExchange (run : Run) (b j : ℕ) : Type 0 where
  pub due_is : dues run b j ≡ exchange.due_list (exchange.exchange_of run.n run.room run.k run.machine run.acts) j b
  pub giver_is : givers run b j ≡ exchange.giver run.k j b

-- so it is of every lane
abbrev pub LanesAreOfTheExchange : Type 0
LanesAreOfTheExchange = (run : Run) (b j : ℕ) → AreOfExchange run b j
