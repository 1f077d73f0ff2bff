use Rattle.cm_model.proofs.HeldBack.{nobody_is_passed_over}
use Rattle.cm_model.proofs.laws.nobody_is_passed_over.Goals as goal

pub returns : goal.returns
returns c = nobody_is_passed_over
