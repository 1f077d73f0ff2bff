use Rattle.std.proofs.Common.{◌≡◌, ℕ, ◌*◌, ◌<◌, ◌≤◌, length, vec_len, vec_capacity}
use Rattle.cm_model.specs.Array.{nth_or_nil}
use Rattle.cm_router_engine.specs.Standing.{AreLaidOut}
use Rattle.cm_router_engine.proofs.row.compact.Given as goal

abbrev pub invariant-loop-c : goal.invariant-loop-c
invariant-loop-c l = record {
  long : length l.slots ≡ length l.fn.slots;
  done : (k : ℕ) → k < l.c → AreLaidOut l.row l.spare.items (nth_or_nil l.fn.slots k) (nth_or_nil l.slots k);
  ahead : (k : ℕ) → l.c ≤ k → nth_or_nil l.slots k ≡ nth_or_nil l.fn.slots k;
  len : vec_len l.spare ≤ 15 * l.c;
  capacity : vec_capacity l.fn.spare ≤ vec_capacity l.spare;
}
