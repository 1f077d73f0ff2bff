use Rattle.std.proofs.Common.{refl}
use lib.Count.{count_trailing_zeros}
use Rattle.lab_plot.specs.Cells.{trimmed}
use Rattle.lab_route_plot.specs.Legs.{legs_from}
use Rattle.lab_route_plot.proofs.laws.routes_are_drawn_so.Goals as goal

pub returns : goal.returns
unfolding legs_from trimmed count_trailing_zeros
returns c = record {
  stayed = refl;
  delivered = refl;
  crossed = refl;
  left_out = refl;
  behind = refl;
  waits = refl;
  stands = refl;
  blanks = refl;
  blank = refl;
  no_cycle = refl;
  no_route = refl;
  late = refl;
  last_chip = refl;
  no_chip = refl;
  rows = refl;
  dims = refl;
  no_dims = refl;
  above = refl;
  middle = refl;
  across = refl;
}
