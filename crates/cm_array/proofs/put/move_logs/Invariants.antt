use Rattle.std.proofs.Common.{◌≡◌, ℕ, ◌+◌, ◌<◌, ◌≤◌}
use Rattle.cm_model.specs.Array.{nth_or_nil}
use Rattle.cm_petit.specs.Routers.{events_of}
use Rattle.cm_array.proofs.put.move_logs.Given as goal

abbrev pub invariant-loop-i : goal.invariant-loop-i
invariant-loop-i l = record {
  laid : (k : ℕ) → k < l.i → nth_or_nil (events_of l.to) (l.at + k) ≡ nth_or_nil (events_of l.fn.from) k;
  rest : (k : ℕ) → l.i ≤ k → nth_or_nil (events_of l.from) k ≡ nth_or_nil (events_of l.fn.from) k;
  below : (k : ℕ) → k < l.at → nth_or_nil (events_of l.to) k ≡ nth_or_nil (events_of l.fn.to) k;
  above : (k : ℕ) → l.at + l.i ≤ k → nth_or_nil (events_of l.to) k ≡ nth_or_nil (events_of l.fn.to) k;
}
