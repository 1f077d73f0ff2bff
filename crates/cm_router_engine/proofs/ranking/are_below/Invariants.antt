use Rattle.std.proofs.Common.{ℕ, ◌<◌, slice_index}
use Rattle.cm_router_engine.proofs.ranking.are_below.Given as goal

abbrev pub invariant-loop-place : goal.invariant-loop-place
invariant-loop-place l = (i : ℕ) → i < l.place-index → slice_index l.moved i < l.bound
