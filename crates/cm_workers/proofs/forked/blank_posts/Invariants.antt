use Rattle.std.proofs.Common.{◌≡◌, ◌≤◌, length, vec_capacity, vec_len}
use Rattle.std.specs.List.{All}
use Rattle.cm_workers.specs.Posts.{blank_post}
use Rattle.cm_workers.proofs.forked.blank_posts.Given as goal

abbrev pub invariant-loop-i : goal.invariant-loop-i
invariant-loop-i l = record {
  count : length l.posts.items ≡ l._i;
  len : vec_len l.posts ≡ l._i;
  room : l.fn.count ≤ vec_capacity l.posts;
  blank : All (λ post. post ≡ blank_post l.fn.dims l.fn.k) l.posts.items;
}
