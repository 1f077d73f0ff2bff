use Rattle.std.proofs.Common.{refl}
use Rattle.lab_load.proofs.laws.faults_come_in_order.Goals as goal

pub returns : goal.returns
returns c = record {
  dimension = refl;
  room = refl;
  wire = refl;
  rate = refl;
  cycles = refl;
  skip = refl;
  seeds = refl;
  rule = refl;
  background = refl;
  table = refl;
  none = refl;
}
