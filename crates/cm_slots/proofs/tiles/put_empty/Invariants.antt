use Rattle.std.proofs.Common.{◌≡◌, ◌≤◌, vec_len, vec_capacity}
use Rattle.cm_slots.specs.Runs.{AreEmptyTiles}
use Rattle.cm_slots.proofs.tiles.put_empty.Given as goal

abbrev pub invariant-loop-t : goal.invariant-loop-t
invariant-loop-t l = record {
  items : AreEmptyTiles l._t l.tiles.items;
  len : vec_len l.tiles ≡ l._t;
  capacity : vec_capacity l.initial.tiles ≤ vec_capacity l.tiles;
}
