use Rattle.std.proofs.Common.{◌≡◌, ◌*◌, ◌^◌}
use Rattle.lab_study.specs.Adding.{AreCountsWithin}
use Rattle.lab_study.specs.Counts.{counts_to}
use Rattle.lab_study.proofs.counting.counts.Given as goal

-- those of so many chips
abbrev pub invariant-loop-chip : goal.invariant-loop-chip
invariant-loop-chip l = record {
  so_far : l.counts ≡ counts_to l.chip l.machine.cap l.before l.ways l.machine.machine;
  within : AreCountsWithin (l.chip * 2 ^ 72) l.counts;
}
