use Rattle.std.proofs.Common.{◌≡◌, ℕ, ◌+◌, ◌-◌, ◌*◌, ◌<◌, ◌≤◌, true, false, length}
use Rattle.lab_load.specs.Figures.{is_reached}
use Rattle.lab_load.proofs.figures.most_of.Given as goal

-- below `low` 95 in a hundred are not reached; at `high` they are, unless that is past the last
abbrev pub invariant-loop-low : goal.invariant-loop-low
invariant-loop-low l = record {
  below : (k : ℕ) → k < l.low → is_reached l.latencies (95 * length l.latencies) k ≡ false;
  there : l.high < l.cycles + 1 → is_reached l.latencies (95 * length l.latencies) l.high ≡ true;
  order : l.low ≤ l.high;
  within : l.high ≤ l.cycles + 1;
}

abbrev pub decreases-loop-low : goal.decreases-loop-low
decreases-loop-low l = l.high - l.low
