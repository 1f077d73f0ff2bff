use Rattle.std.proofs.Common.{◌≡◌, ℕ, ◌+◌, ◌<◌, ◌≤◌, length}
use Rattle.cm_model.specs.Array.{nth_or_nil}
use Rattle.cm_array.proofs.part.lay_buffers.Given as goal

abbrev pub invariant-loop-i : goal.invariant-loop-i
invariant-loop-i l = record {
  count : length l.to.buffers ≡ length l.fn.to.buffers;
  laid : (k : ℕ) → k < l.i → nth_or_nil l.to.buffers (l.at + k) ≡ nth_or_nil l.from.buffers (l.first + k);
  below : (k : ℕ) → k < l.at → nth_or_nil l.to.buffers k ≡ nth_or_nil l.fn.to.buffers k;
  above : (k : ℕ) → l.at + l.i ≤ k → nth_or_nil l.to.buffers k ≡ nth_or_nil l.fn.to.buffers k;
}
