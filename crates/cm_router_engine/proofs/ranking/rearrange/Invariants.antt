use Rattle.std.proofs.Common.{◌≡◌, ◌<◌, ◌≤◌, ◌⊎◌, ℕ, length, slice_index, slice_index_or, vec_len, vec_capacity}
use Rattle.cm_router_engine.specs.Standing.{no_message}
use Rattle.cm_router_engine.proofs.ranking.rearrange.Given as goal

abbrev pub invariant-loop-place : goal.invariant-loop-place
invariant-loop-place l = record {
  long : vec_len l.moved ≡ length l.row;
  len : vec_len l.spare ≡ l.place;
  same : (n : ℕ) → n < length l.row → (slice_index l.moved.items n ≡ 65535) ⊎ ((slice_index l.moved.items n < l.place)
      × (slice_index_or l.spare.items (slice_index l.moved.items n) no_message ≡ slice_index_or l.row n no_message));
  capacity : vec_capacity l.fn.spare ≤ vec_capacity l.spare;
}
