use Rattle.std.proofs.Common.{◌≡◌, ℕ, ◌<◌, ◌≤◌, ◌+◌, ◌*◌, get_or}
use Rattle.cm_element.proofs.run.lay.turn_row.Given as goal

-- the planes that were put, and all else as it was
abbrev pub invariant-loop-c : goal.invariant-loop-c
invariant-loop-c g l = record {
  done : (k : ℕ) → k < l.c → get_or l.rows (l.at + k) 0 ≡ get_or l.planes (k * g.row.PITCH + l.source) 0;
  below : (i : ℕ) → i < l.at → get_or l.rows i 0 ≡ get_or l.initial.rows i 0;
  above : (i : ℕ) → l.at + l.c ≤ i → get_or l.rows i 0 ≡ get_or l.initial.rows i 0;
}
