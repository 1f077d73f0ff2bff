use Rattle.std.proofs.Common.{◌≡◌, ℕ, ◌<◌, ◌≤◌, ◌+◌, cond, get_or}
use Rattle.cm_bits.specs.Bit.{bit}
use Rattle.cm_element.proofs.run.outputs.store_row.Given as goal

-- the planes that were stored, and all else as it was
abbrev pub invariant-loop-c : goal.invariant-loop-c
invariant-loop-c l = record {
  each : (k : ℕ) → k < l.c → (p : ℕ) → bit (get_or l.rows (l.at + k) 0) p
      ≡ cond (bit (get_or l.holds k 0) p) (bit (get_or l.planes k 0) p) (bit (get_or l.initial.rows (l.at + k) 0) p);
  below : (i : ℕ) → i < l.at → get_or l.rows i 0 ≡ get_or l.initial.rows i 0;
  above : (i : ℕ) → l.at + l.c ≤ i → get_or l.rows i 0 ≡ get_or l.initial.rows i 0;
}
