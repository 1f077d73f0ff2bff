use Rattle.std.proofs.Common.{◌≡◌, ℕ, ◌<◌, length}
use Rattle.cm_model.specs.Array.{nth_or_nil}
use Rattle.cm_petit.specs.Routers.{events_of}
use Rattle.cm_array.proofs.chip_state.lay_logs.Given as goal

abbrev pub invariant-loop-c : goal.invariant-loop-c
invariant-loop-c l = record {
  count : length l.logs ≡ length l.fn.logs;
  laid : (k : ℕ) → k < l.c → nth_or_nil (events_of l.logs) k ≡ nth_or_nil (events_of l.others) k;
}
