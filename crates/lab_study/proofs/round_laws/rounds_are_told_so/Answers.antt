use Rattle.std.proofs.Common.{refl}
use Rattle.std.specs.Fmt.{digits}
use Rattle.lab_study.specs.Repeats.{round_line}
use Rattle.lab_study.proofs.round_laws.rounds_are_told_so.Goals as goal

pub returns : goal.returns
unfolding round_line digits
returns c = record { first = refl; never = refl; wanders = refl; waits = refl; untold = refl }
