use Rattle.cm_blocks.proofs.Filling.{leaving_then_taking_in}
use Rattle.cm_blocks.proofs.laws.leaving_then_taking_in.Goals as goal

pub returns : goal.returns
returns c = leaving_then_taking_in
