use Rattle.cm_model.proofs.Keeping.{IsMachine-after_act}
use Rattle.cm_model.proofs.laws.machines_are_kept.Goals as goal

pub returns : goal.returns
returns c = IsMachine-after_act
