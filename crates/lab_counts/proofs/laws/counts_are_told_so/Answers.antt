use Rattle.std.proofs.Common.{refl}
use Rattle.std.specs.Fmt.{digits}
use Rattle.lab_counts.specs.Tables.{counted_line}
use Rattle.lab_counts.proofs.laws.counts_are_told_so.Goals as goal

pub returns : goal.returns
unfolding counted_line digits
returns c = record { added = refl; lines = refl }
