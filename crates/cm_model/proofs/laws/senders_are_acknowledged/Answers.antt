use Rattle.cm_model.proofs.Apart.{senders_are_acknowledged}
use Rattle.cm_model.proofs.laws.senders_are_acknowledged.Goals as goal

pub returns : goal.returns
returns c = senders_are_acknowledged
