use Rattle.cm_blocks.proofs.Rounding.{blocks_begin}
use Rattle.cm_blocks.proofs.laws.blocks_begin.Goals as goal

pub returns : goal.returns
returns c = blocks_begin
