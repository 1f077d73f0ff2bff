use Rattle.cm_language.proofs.ReadingBack.{programs_are_whole}
use Rattle.cm_language.proofs.laws.programs_are_whole.Goals as goal

pub returns : goal.returns
returns c = programs_are_whole
