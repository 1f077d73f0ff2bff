use Rattle.std.proofs.Common.{◌≡◌, ℕ, ◌<◌}
use Rattle.cm_slots.specs.Tiles.{slots_of, IsShaped}
use Rattle.cm_slots.specs.Runs.{tile_at}
use Rattle.cm_slots.proofs.tiles.empty_all.Given as goal

abbrev pub invariant-loop-tile : goal.invariant-loop-tile
invariant-loop-tile l = record {
  shape : (t : ℕ) → t < l.tile-index → IsShaped (tile_at l.tiles t);
  blank : (t i j : ℕ) → t < l.tile-index → slots_of (tile_at l.tiles t) i j ≡ 0;
}
