use Rattle.cm_model.proofs.Rooms.{crossings_keep_room}
use Rattle.cm_model.proofs.laws.crossings_keep_room.Goals as goal

pub returns : goal.returns
returns c = crossings_keep_room
