use Rattle.std.proofs.Common.{◌≡◌, ◌≤◌, ◌+◌, length, vec_capacity}
use Rattle.cm_turns.specs.Lanes.{Run}
use Rattle.cm_turns.specs.Workers.{IsOfTeam}
use Rattle.cm_resident.specs.Gathering.{AreAll}
use Rattle.cm_resident.specs.SharedLists.{IsRunOfList}
use Rattle.cm_resident.specs.Teams.{AreDealtFrom}
use Rattle.cm_resident.proofs.teams.workers_of.Given as goal

abbrev pub invariant-loop-w : goal.invariant-loop-w
invariant-loop-w l = record {
  room : l.list.workers ≤ vec_capacity l.team;
  made : length l.team.items ≡ l.w;
  left : length l.hands.items + l.w ≡ l.list.workers;
  team_is : (run : Run) → IsRunOfList run l.list → AreDealtFrom run l.list.workers 0 l.initial.hands.items
      → AreDealtFrom run l.list.workers l.w l.hands.items
      × AreAll (λ w worker. (worker.id ≡ w) × IsOfTeam run l.list.workers worker) l.w l.team.items;
}
