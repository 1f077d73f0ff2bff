use Rattle.std.proofs.Common.{◌≡◌, ◌<◌, ◌≤◌, ℕ, length, get_or, vec_capacity, vec_len}
use Rattle.cm_gates.specs.Dealing.{hand}
use Rattle.cm_workers.specs.Shifts.{IsPromiseKept}
use Rattle.cm_workers.proofs.shift.join_all.Given as goal

abbrev pub invariant-loop-handle : goal.invariant-loop-handle
invariant-loop-handle g l = record {
  blocks : length l.blocks.items ≡ length l.yielded;
  posts : length l.posts.items ≡ length l.yielded;
  block_room : vec_len l.fn.handles ≤ vec_capacity l.blocks;
  post_room : vec_len l.fn.handles ≤ vec_capacity l.posts;
  kept : (w : ℕ) (d : _) (e : _) (f : _) → w < length l.yielded
      → IsPromiseKept (get_or l.yielded w d).promise (hand l.blocks.items e w) (hand l.posts.items f w);
}
