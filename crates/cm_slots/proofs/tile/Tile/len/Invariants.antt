use Rattle.std.proofs.Common.{◌-◌, ◌≢◌, ℕ, ◌<◌, ◌≤◌}
use Rattle.cm_slots.specs.Tiles.{slots_of}
use Rattle.cm_slots.proofs.tile.Tile.len.Given as goal

abbrev pub invariant-loop-len : goal.invariant-loop-len
invariant-loop-len l = record {
  within : l.len ≤ 15;
  some : (j : ℕ) → j < l.len → slots_of l.self l.place j ≢ 0;
}

abbrev pub decreases-loop-len : goal.decreases-loop-len
decreases-loop-len l = 15 - l.len
