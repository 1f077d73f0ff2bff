use Rattle.cm_session.proofs.Running.{sessions_keep_machines}
use Rattle.cm_session.proofs.whole_laws.sessions_keep_machines.Goals as goal

pub returns : goal.returns
returns c = sessions_keep_machines
