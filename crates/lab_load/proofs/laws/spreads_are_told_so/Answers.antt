use Rattle.std.proofs.Common.{refl}
use Rattle.std.specs.Fmt.{digits}
use Rattle.lab_load.specs.Tables.{spread_line}
use Rattle.lab_load.proofs.laws.spreads_are_told_so.Goals as goal

pub returns : goal.returns
unfolding spread_line digits
returns c = record {
  first_quantiles = refl;
  last_quantile = refl;
  later_quantile = refl;
  of_two = refl;
  of_like_ones = refl;
  line = refl;
}
