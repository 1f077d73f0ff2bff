use Rattle.std.proofs.Common.{◌≡◌, ◌<◌, ◌≤◌, ℕ, Some, drop, length, get_or, vec_capacity}
use Rattle.cm_resident.proofs.running.all_there.Given as goal

abbrev pub invariant-loop-w : goal.invariant-loop-w
invariant-loop-w g l = record {
  count : length l.shares.items ≡ l._w;
  room : length l.fn.left.items ≤ vec_capacity l.shares;
  rest : l.left.items ≡ drop l._w l.fn.left.items;
  each : (w : ℕ) (d : _) (e : _) → w < l._w → get_or l.fn.left.items w d ≡ Some (get_or l.shares.items w e);
}
