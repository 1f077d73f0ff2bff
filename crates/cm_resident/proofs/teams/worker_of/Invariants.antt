use Rattle.std.proofs.Common.{◌≡◌, ◌≤◌, ℕ, drop, length, vec_capacity}
use Rattle.cm_turns.specs.Lanes.{Run}
use Rattle.cm_resident.specs.Teams.{HasWorkerParts}
use Rattle.cm_resident.proofs.Fitting.{HasFirst}
use Rattle.cm_resident.proofs.teams.worker_of.Given as goal

abbrev pub invariant-loop-i : goal.invariant-loop-i
invariant-loop-i l = record {
  made : length l.blocks.items ≡ l._i;
  room : l.count ≤ vec_capacity l.blocks;
  left : l.worker_parts.items ≡ drop l._i l.fn.worker_parts.items;
  first : (run : Run) (count : ℕ) → HasWorkerParts run count l.id l.fn.worker_parts.items
      → HasFirst run count l.id l._i l.blocks.items l.sends.items l.gets.items;
}
