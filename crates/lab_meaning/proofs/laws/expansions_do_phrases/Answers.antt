use Rattle.lab_meaning.proofs.Standing.{expansions_do_phrases}
use Rattle.lab_meaning.proofs.laws.expansions_do_phrases.Goals as goal

pub returns : goal.returns
returns c = expansions_do_phrases
