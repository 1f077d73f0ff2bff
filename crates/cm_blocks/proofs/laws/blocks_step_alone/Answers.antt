use Rattle.cm_blocks.proofs.Stepping.{block-step}
use Rattle.cm_blocks.proofs.laws.blocks_step_alone.Goals as goal

pub returns : goal.returns
returns c = block-step
