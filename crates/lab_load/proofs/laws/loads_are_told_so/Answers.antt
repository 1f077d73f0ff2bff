use Rattle.std.proofs.Common.{refl}
use Rattle.std.specs.Fmt.{digits}
use Rattle.lab_load.specs.Tables.{load_line}
use Rattle.lab_load.proofs.laws.loads_are_told_so.Goals as goal

pub returns : goal.returns
unfolding load_line digits
returns c = record {
  mean = refl;
  most = refl;
  greatest = refl;
  throughput = refl;
  no_mean = refl;
  no_most = refl;
  slower = refl;
  line = refl;
}
