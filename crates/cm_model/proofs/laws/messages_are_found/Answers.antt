use Rattle.cm_model.proofs.Finding.{messages_are_found}
use Rattle.cm_model.proofs.laws.messages_are_found.Goals as goal

pub returns : goal.returns
returns c = messages_are_found
