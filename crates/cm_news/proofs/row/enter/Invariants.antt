use Rattle.std.proofs.Common.{◌≡◌, ℕ, ◌+◌, ◌<◌, ◌≤◌, get_or}
use Rattle.cm_news.specs.Bands.{IsEntered}
use Rattle.cm_news.proofs.row.enter.Given as goal

-- the chips so far, and the other planes as they were
abbrev pub invariant-loop-k : goal.invariant-loop-k
invariant-loop-k l = record {
  each : (j : ℕ) → j < l.k
      → IsEntered l.dir (get_or l.planes (l.from + j) 0) (get_or l.edge j 0) (get_or l.out (l.from + j) 0);
  below : (i : ℕ) → i < l.from → get_or l.out i 0 ≡ get_or l.fn.out i 0;
  above : (i : ℕ) → l.from + l.k ≤ i → get_or l.out i 0 ≡ get_or l.fn.out i 0;
}
