use Rattle.cm_blocks.proofs.Filling.{leaving_makes_room}
use Rattle.cm_blocks.proofs.laws.leaving_makes_room.Goals as goal

pub returns : goal.returns
returns c = leaving_makes_room
