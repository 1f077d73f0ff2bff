use Rattle.cm_model.proofs.Blanks.{IsMachine-blank}
use Rattle.cm_model.proofs.laws.blank_is_machine.Goals as goal

pub returns : goal.returns
returns c = IsMachine-blank
