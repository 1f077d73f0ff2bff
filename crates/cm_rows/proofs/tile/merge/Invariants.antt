use Rattle.std.proofs.Common.{◌≡◌, ℕ, ◌<◌, ◌≤◌, ◌+◌, cond, get_or}
use Rattle.cm_bits.specs.Bit.{bit}
use Rattle.cm_rows.proofs.tile.merge.Given as goal

-- the planes that were put, and all else as it was
abbrev pub invariant-loop-k : goal.invariant-loop-k
invariant-loop-k l = record {
  each : (j : ℕ) → j < l.k → (p : ℕ) → bit (get_or l.row (l.at + j) 0) p
      ≡ cond (bit (get_or l.choice j 0) p) (bit (get_or l.planes j 0) p) (bit (get_or l.initial.row (l.at + j) 0) p);
  below : (i : ℕ) → i < l.at → get_or l.row i 0 ≡ get_or l.initial.row i 0;
  above : (i : ℕ) → l.at + l.k ≤ i → get_or l.row i 0 ≡ get_or l.initial.row i 0;
}
