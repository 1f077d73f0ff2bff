use Rattle.std.proofs.Common.{◌≡◌, ◌⊎◌, ℕ, ◌<◌, ◌≤◌, ◌+◌, ◌*◌, get_or}
use Rattle.cm_element.proofs.run.lay.turn_flags.Given as goal

-- the rows into which planes were put, and all else as it was
abbrev pub invariant-loop-row : goal.invariant-loop-row
invariant-loop-row l = record {
  laid : (i c : ℕ) → i < l.row → c < l.count → get_or l.rows (i * l.here.stride + (l.here.first + c)) 0
      ≡ get_or l.planes (c * 16 + i) 0;
  others : (i k : ℕ) → k < l.here.stride → (l.row ≤ i) ⊎ ((k < l.here.first) ⊎ (l.here.first + l.count ≤ k))
      → get_or l.rows (i * l.here.stride + k) 0 ≡ get_or l.initial.rows (i * l.here.stride + k) 0;
}
