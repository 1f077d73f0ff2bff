use Rattle.std.proofs.Common.{◌≡◌, ◌≢◌, ◌⊎◌, ℕ, ◌<◌, ◌+◌, ◌*◌, get_or}
use Rattle.cm_element.proofs.run.lay.write_row.Given as goal

-- the words that were written, and all else as it was
abbrev pub invariant-loop-c : goal.invariant-loop-c
invariant-loop-c l = record {
  done : (k : ℕ) → k < l.c → get_or l.planes ((l.chip + k) * 4128 + l.at) 0 ≡ get_or l.words k 0;
  others : (k i : ℕ) → i < 4096 → (k < l.chip) ⊎ (i ≢ l.at)
      → get_or l.planes (k * 4128 + i) 0 ≡ get_or l.initial.planes (k * 4128 + i) 0;
}
