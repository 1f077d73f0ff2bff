use Rattle.std.proofs.Common.{◌≡◌, ◌<◌, ◌≤◌, ℕ, drop, length, get_or, vec_capacity}
use Rattle.std.specs.Prelude.{IfSome}
use Rattle.cm_turns.specs.Workers.{HasWorked}
use Rattle.cm_resident.proofs.running.join_all.Given as goal

abbrev pub invariant-loop-w : goal.invariant-loop-w
invariant-loop-w g l = record {
  count : length l.left.items ≡ l._w;
  room : length l.fn.handles.items ≤ vec_capacity l.left;
  rest : l.handles.items ≡ drop l._w l.fn.handles.items;
  kept : (w : ℕ) (d : _) (e : _) → w < l._w
      → IfSome (get_or l.left.items w e)
      (λ blocks. HasWorked (get_or l.fn.handles.items w d).promise.was.value blocks.items);
}
