use Rattle.lab_meaning.proofs.Standing.{sources_macros_stand}
use Rattle.lab_meaning.proofs.laws.sources_macros_stand.Goals as goal

pub returns : goal.returns
returns c = sources_macros_stand
