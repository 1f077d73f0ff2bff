use Rattle.std.proofs.Common.{refl}
use Rattle.cm_system.proofs.Leading.{did_so}
use Rattle.cm_system.proofs.output_files.abort_files.Goals as goal

pub returns : goal.returns
returns g c = record { value = did_so c.take_away.ensures (λ trace is. (is, refl)) }
