use Rattle.std.proofs.Common.{◌≡◌, ℕ, ◌<◌, ◌≤◌, ◌++◌, length, get_or}
use Rattle.cm_model.specs.Array.{nth_or_nil}
use Rattle.cm_router.specs.Logs.{Log}
use Rattle.cm_petit.specs.Routers.{events_of}
use Rattle.cm_array.proofs.saved_logs.append_logs.Given as goal

abbrev pub invariant-loop-c : goal.invariant-loop-c
invariant-loop-c l = record {
  count : length l.logs ≡ length l.fn.logs;
  behind : (k : ℕ) → k < l.c
      → nth_or_nil (events_of l.logs) k ≡ nth_or_nil (events_of l.fn.logs) k ++ nth_or_nil (events_of l.more) k;
  rest : (k : ℕ) (d : Log) → l.c ≤ k → get_or l.logs k d ≡ get_or l.fn.logs k d;
}
