use Rattle.std.proofs.Common.{ℕ, ◌+◌, ◌-◌, ◌*◌, ◌<◌, get_or}
use Rattle.cm_news.specs.Rounds.{IsJoined}
use Rattle.cm_news.proofs.row.turn_on.Given as goal

-- the chips so far, each with the next one of all
abbrev pub invariant-loop-k : goal.invariant-loop-k
invariant-loop-k l = (j : ℕ) → j + 1 < l.k
    → IsJoined l.dir (get_or l.planes j 0) (get_or l.planes (j + 1) 0) (get_or l.out j 0)

-- all but the last of each row, and the last of the rows so far
abbrev pub invariant-loop-row : goal.invariant-loop-row
invariant-loop-row l = record {
  inside : (q r : ℕ) → q < l.rows → r + 1 < l.columns → IsJoined l.dir (get_or l.planes (q * l.columns + r) 0)
      (get_or l.planes (q * l.columns + (r + 1)) 0) (get_or l.out (q * l.columns + r) 0);
  ends : (q : ℕ) → q < l.row → IsJoined l.dir (get_or l.planes (q * l.columns + (l.columns - 1)) 0)
      (get_or l.planes (q * l.columns) 0) (get_or l.out (q * l.columns + (l.columns - 1)) 0);
}
