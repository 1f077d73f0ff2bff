use Rattle.cm_model.proofs.Wires.{stays_as_it_is}
use Rattle.cm_model.proofs.laws.nobody_crosses_a_cut_wire.Goals as goal

pub returns : goal.returns
returns c = stays_as_it_is
