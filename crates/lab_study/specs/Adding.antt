-- Numbers of chips, and their sums. Ours.
use Rattle.std.specs.Prelude.{ℕ, ◌+◌, ◌≤◌}
use Rattle.lab_study.specs.declared.counts.Counts.{Counts}

-- each of them 0
abbrev pub no_counts : Counts
no_counts = record { taken = 0; delivered = 0; referred = 0; standing = 0; full = 0; asking = 0 }

-- the sum of each
abbrev pub added : Counts → Counts → Counts
added these more = record {
  taken = these.taken + more.taken;
  delivered = these.delivered + more.delivered;
  referred = these.referred + more.referred;
  standing = these.standing + more.standing;
  full = these.full + more.full;
  asking = these.asking + more.asking;
}

-- none is above this number
pub record AreCountsWithin (most : ℕ) (counts : Counts) : Type 0 where
  pub taken : counts.taken ≤ most
  pub delivered : counts.delivered ≤ most
  pub referred : counts.referred ≤ most
  pub standing : counts.standing ≤ most
  pub full : counts.full ≤ most
  pub asking : counts.asking ≤ most
