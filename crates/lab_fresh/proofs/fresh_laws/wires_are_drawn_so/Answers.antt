use Rattle.std.proofs.Common.{refl}
use Rattle.lab_fresh.specs.Draws.{draw_of}
use Rattle.lab_fresh.specs.Drawn.{drawn_of_first}
use Rattle.lab_fresh.proofs.fresh_laws.wires_are_drawn_so.Goals as goal

pub returns : goal.returns
unfolding draw_of drawn_of_first
returns c = record {
  first = refl;
  second = refl;
  next_dimension = refl;
  between = refl;
  last = refl;
  three = refl;
  all = refl;
  none = refl;
}
