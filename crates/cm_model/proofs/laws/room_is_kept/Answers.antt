use Rattle.cm_model.proofs.Rooms.{HasRoom-after_step}
use Rattle.cm_model.proofs.laws.room_is_kept.Goals as goal

pub returns : goal.returns
returns c = HasRoom-after_step
