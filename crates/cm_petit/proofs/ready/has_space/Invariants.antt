use Rattle.std.proofs.Common.{◌≡◌, ◌⊎◌, ℕ, ◌<◌, None, length, get_or}
use Rattle.cm_model.specs.Array.{nth_or_nil}
use Rattle.cm_petit.proofs.ready.has_space.Given as goal

abbrev pub invariant-loop-c : goal.invariant-loop-c
invariant-loop-c l = record {
  space : (k : ℕ) → k < l.c
      → (get_or l.leavers k None ≡ None) ⊎ (length (nth_or_nil l.crossing.buffers k) < l.sizes.room);
}
