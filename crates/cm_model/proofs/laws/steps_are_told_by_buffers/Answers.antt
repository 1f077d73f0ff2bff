use Rattle.cm_model.proofs.Parts.{steps_are_told}
use Rattle.cm_model.proofs.laws.steps_are_told_by_buffers.Goals as goal

pub returns : goal.returns
returns c = steps_are_told
