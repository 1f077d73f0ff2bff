use Rattle.lab_phrases.proofs.AllPhrases.{phrases_are_right}
use Rattle.lab_phrases.proofs.laws.phrases_are_right.Goals as goal

pub returns : goal.returns
returns c = phrases_are_right
