use Rattle.cm_model.proofs.Cuts.{routings_are_told_by_wires}
use Rattle.cm_model.proofs.laws.routings_are_told_by_wires.Goals as goal

pub returns : goal.returns
returns c = routings_are_told_by_wires
