use Rattle.cm_blocks.proofs.Rounding.{blocks_go_on}
use Rattle.cm_blocks.proofs.laws.blocks_go_on.Goals as goal

pub returns : goal.returns
returns c = blocks_go_on
