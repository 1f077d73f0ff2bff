use Rattle.cm_session.proofs.Messages.{sessions_deliver}
use Rattle.cm_session.proofs.whole_laws.sessions_deliver.Goals as goal

pub returns : goal.returns
returns c = sessions_deliver
