use Rattle.std.proofs.Common.{ℕ, ◌<◌}
use Rattle.cm_slots.specs.Runs.{tile_at, leavers_at}
use Rattle.cm_slots.specs.Moves.{AreFirst}
use Rattle.cm_slots.proofs.moving.lift.Given as goal

abbrev pub invariant-loop-t : goal.invariant-loop-t
invariant-loop-t l = (t : ℕ) → t < l.t → AreFirst (tile_at l.tiles t) (leavers_at l.firsts t)
