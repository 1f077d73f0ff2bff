use Rattle.std.proofs.Common.{◌≡◌, ℕ, ◌<◌, ◌≤◌, ◌^◌, [], length}
use Rattle.cm_model.specs.Array.{nth_or_nil}
use Rattle.lab_machine.proofs.copying.copied_engine.Given as goal

-- the messages of so many chips stand there
abbrev pub invariant-loop-chip : goal.invariant-loop-chip
invariant-loop-chip g l = record {
  count : length l.engine.buffers ≡ 2 ^ g.S.Sizes.n;
  laid : (k : ℕ) → k < l.chip → nth_or_nil l.engine.buffers k ≡ nth_or_nil l.machine.machine.buffers k;
  above : (k : ℕ) → l.chip ≤ k → nth_or_nil l.engine.buffers k ≡ [];
}
