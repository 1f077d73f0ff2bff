use Rattle.std.proofs.Common.{◌≡◌, ℕ, ◌+◌, ◌<◌, ◌≤◌, get_or}
use Rattle.cm_news.specs.Rounds.{IsTurned}
use Rattle.cm_news.proofs.row.turn.Given as goal

-- the chips so far, and the other planes as they were
abbrev pub invariant-loop-k : goal.invariant-loop-k
invariant-loop-k l = record {
  each : (j : ℕ) → j < l.k → IsTurned l.dir l.planes l.from l.count l.by j (get_or l.out (l.from + j) 0);
  below : (i : ℕ) → i < l.from → get_or l.out i 0 ≡ get_or l.fn.out i 0;
  above : (i : ℕ) → l.from + l.k ≤ i → get_or l.out i 0 ≡ get_or l.fn.out i 0;
}

abbrev pub invariant-loop-k-2 : goal.invariant-loop-k-2
invariant-loop-k-2 l = record {
  each : (j : ℕ) → j < l.k → IsTurned l.dir l.planes l.from l.count l.by j (get_or l.out (l.from + j) 0);
  below : (i : ℕ) → i < l.from → get_or l.out i 0 ≡ get_or l.fn.out i 0;
  above : (i : ℕ) → l.from + l.k ≤ i → get_or l.out i 0 ≡ get_or l.fn.out i 0;
}
