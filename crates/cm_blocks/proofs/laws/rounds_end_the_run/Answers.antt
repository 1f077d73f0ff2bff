use Rattle.cm_blocks.proofs.Rounding.{rounds_end_the_run}
use Rattle.cm_blocks.proofs.laws.rounds_end_the_run.Goals as goal

pub returns : goal.returns
returns c = rounds_end_the_run
