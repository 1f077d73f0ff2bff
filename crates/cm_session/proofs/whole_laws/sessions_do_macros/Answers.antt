use Rattle.cm_session.proofs.Macros.{sessions_do_macros}
use Rattle.cm_session.proofs.whole_laws.sessions_do_macros.Goals as goal

pub returns : goal.returns
returns c = sessions_do_macros
