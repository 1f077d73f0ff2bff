use Rattle.std.proofs.Common.{◌≡◌, ℕ, ◌+◌, ◌<◌, get_or}
use Rattle.cm_bits.specs.Bit.{bit}
use Rattle.cm_news.specs.Moves.{at_edge}
use Rattle.cm_array.proofs.stepping.write_edge.Given as goal

-- the columns of chips so far
abbrev pub invariant-loop-k : goal.invariant-loop-k
invariant-loop-k l = record {
  value : (j i : ℕ) → j < l.k → i < 4 → bit (get_or l.out j 0) i ≡ bit (get_or l.sent (l.from + j) 0) (at_edge l.dir i);
  within : (j : ℕ) → j < l.k → get_or l.out j 0 < 16;
}
