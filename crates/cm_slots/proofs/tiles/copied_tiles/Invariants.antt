use Rattle.std.proofs.Common.{◌≡◌, ◌≤◌, take, vec_len, vec_capacity}
use Rattle.cm_slots.proofs.tiles.copied_tiles.Given as goal

abbrev pub invariant-loop-t : goal.invariant-loop-t
invariant-loop-t l = record {
  items : l.copies.items ≡ take l.t l.tiles;
  len : vec_len l.copies ≡ l.t;
  space : l.space ≤ vec_capacity l.copies;
}
