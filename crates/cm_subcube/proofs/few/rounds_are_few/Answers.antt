use Rattle.cm_subcube.proofs.FewRounds.{rounds_are_few}
use Rattle.cm_subcube.proofs.few.rounds_are_few.Goals as goal

pub returns : goal.returns
returns c = rounds_are_few
