use Rattle.cm_language.proofs.ListedText.{programs_are_listed}
use Rattle.cm_language.proofs.laws.programs_are_listed.Goals as goal

pub returns : goal.returns
returns c = programs_are_listed
