use Rattle.std.proofs.Common.{◌≡◌, ℕ, ◌<◌, ◌≤◌, length, map}
use Rattle.cm_model.specs.Array.{nth_or_nil}
use Rattle.cm_router_engine.specs.Ranking.{moved_ticket}
use Rattle.cm_router_engine.proofs.ranking.renumber.Given as goal

abbrev pub invariant-loop-c : goal.invariant-loop-c
invariant-loop-c l = record {
  long : length l.slots ≡ length l.fn.slots;
  done : (k : ℕ) → k < l.c → nth_or_nil l.slots k ≡ map (moved_ticket l.moved) (nth_or_nil l.fn.slots k);
  ahead : (k : ℕ) → l.c ≤ k → nth_or_nil l.slots k ≡ nth_or_nil l.fn.slots k;
}
