use Rattle.lab_phrases.proofs.LeftAlone.{phrases_leave_the_rest}
use Rattle.lab_phrases.proofs.laws.phrases_leave_the_rest.Goals as goal

pub returns : goal.returns
returns c = phrases_leave_the_rest
