use Rattle.std.proofs.Common.{◌≡◌, ◌≤◌, ◌+◌, [], length, vec_capacity}
use Rattle.cm_turns.specs.Lanes.{Run}
use Rattle.cm_resident.specs.Teams.{AreMatched}
use Rattle.cm_resident.proofs.worker_parts.with_ends.Given as goal

abbrev pub invariant-loop-b : goal.invariant-loop-b
invariant-loop-b l = record {
  made : length l.worker_parts.items ≡ l._b;
  room : l.count ≤ vec_capacity l.worker_parts;
  left : length l.blocks.items + l._b ≡ l.count;
  matched : (run : Run) → AreMatched run 0 l.initial.blocks.items l.initial.ends.sends.items l.initial.ends.gets.items []
      → AreMatched run l._b l.blocks.items l.ends.sends.items l.ends.gets.items l.worker_parts.items;
}
