use Rattle.cm_model.proofs.Crossing.{target-after_dimension}
use Rattle.cm_model.proofs.laws.targets_are_kept.Goals as goal

pub returns : goal.returns
returns c = target-after_dimension
