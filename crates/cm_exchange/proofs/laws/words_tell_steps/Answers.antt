use Rattle.cm_exchange.proofs.Words.{words_tell_steps}
use Rattle.cm_exchange.proofs.laws.words_tell_steps.Goals as goal

pub returns : goal.returns
returns c = words_tell_steps
