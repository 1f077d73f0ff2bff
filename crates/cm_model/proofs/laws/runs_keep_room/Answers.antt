use Rattle.cm_model.proofs.Parts.{HasRoom-at_each_step}
use Rattle.cm_model.proofs.laws.runs_keep_room.Goals as goal

pub returns : goal.returns
returns c = HasRoom-at_each_step
