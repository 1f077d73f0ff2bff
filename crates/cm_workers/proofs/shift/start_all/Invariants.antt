use Rattle.std.proofs.Common.{◌≡◌, ◌<◌, ◌≤◌, ℕ, drop, length, get_or, vec_capacity}
use Rattle.cm_gates.specs.Dealing.{hand}
use Rattle.cm_workers.specs.Shifts.{IsPromised}
use Rattle.cm_workers.proofs.shift.start_all.Given as goal

abbrev pub invariant-loop-w : goal.invariant-loop-w
invariant-loop-w g l = record {
  started : length l.handles.items ≡ l.w;
  room : l.count ≤ vec_capacity l.handles;
  blocks : l.hands.blocks.items ≡ drop l.w l.fn.hands.blocks.items;
  posts : l.hands.posts.items ≡ drop l.w l.fn.hands.posts.items;
  promised : (i : ℕ) (d : _) (e : _) (f : _) → i < l.w
      → IsPromised l.fn.run.acts.now l.fn.run.rounds.now l.fn.number (hand l.fn.hands.blocks.items e i)
      (hand l.fn.hands.posts.items f i) (get_or l.handles.items i d).promise;
}
