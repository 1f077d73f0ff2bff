use Rattle.cm_blocks.proofs.Stepping.{block-local}
use Rattle.cm_blocks.proofs.laws.local_steps_need_no_parcel.Goals as goal

pub returns : goal.returns
returns c = block-local
