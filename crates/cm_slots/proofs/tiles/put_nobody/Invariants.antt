use Rattle.std.proofs.Common.{◌≡◌, ◌≤◌, length, vec_len, vec_capacity}
use Rattle.cm_slots.proofs.tiles.put_nobody.Given as goal

abbrev pub invariant-loop-t : goal.invariant-loop-t
invariant-loop-t l = record {
  items : length l.leaving.items ≡ l._t;
  len : vec_len l.leaving ≡ l._t;
  capacity : vec_capacity l.initial.leaving ≤ vec_capacity l.leaving;
}
