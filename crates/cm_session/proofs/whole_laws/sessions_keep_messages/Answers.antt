use Rattle.cm_session.proofs.Messages.{sessions_keep_messages}
use Rattle.cm_session.proofs.whole_laws.sessions_keep_messages.Goals as goal

pub returns : goal.returns
returns c = sessions_keep_messages
