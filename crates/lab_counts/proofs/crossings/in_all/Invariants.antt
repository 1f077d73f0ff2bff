use Rattle.std.proofs.Common.{◌≡◌, fold, take}
use Rattle.lab_counts.specs.Crossings.{crossings_added, no_crossings}
use Rattle.lab_counts.proofs.crossings.in_all.Given as goal

-- those of so many
abbrev pub invariant-loop-more : goal.invariant-loop-more
invariant-loop-more l = l.all ≡ fold crossings_added no_crossings (take l.more-index l.known)
