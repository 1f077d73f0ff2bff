use Rattle.cm_blocks.proofs.Joining.{blocks_are_the_whole}
use Rattle.cm_blocks.proofs.laws.blocks_are_the_whole.Goals as goal

pub returns : goal.returns
returns c = blocks_are_the_whole
