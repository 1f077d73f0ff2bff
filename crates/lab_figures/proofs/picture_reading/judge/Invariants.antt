use Rattle.std.proofs.Common.{◌≡◌, ℕ, ◌<◌, false, nat_lt, get_or}
use Rattle.lab_figures.proofs.picture_reading.judge.Given as goal

-- no dot so far has a number above the greatest
abbrev pub invariant-loop-i : goal.invariant-loop-i
invariant-loop-i l = (k : ℕ) → k < l.i → nat_lt l.greatest (get_or l.dots k 0) ≡ false
