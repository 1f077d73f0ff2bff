use Rattle.cm_weave.proofs.Following.{blocks_follow}
use Rattle.cm_weave.proofs.laws.blocks_follow.Goals as goal

pub returns : goal.returns
returns c = blocks_follow
