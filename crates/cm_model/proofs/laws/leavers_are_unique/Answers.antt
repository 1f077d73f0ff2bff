use Rattle.cm_model.proofs.Choosing.{leavers_are_unique}
use Rattle.cm_model.proofs.laws.leavers_are_unique.Goals as goal

pub returns : goal.returns
returns c = leavers_are_unique
