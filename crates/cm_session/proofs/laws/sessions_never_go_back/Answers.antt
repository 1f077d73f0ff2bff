use Rattle.cm_session.proofs.Stretching.{going-rises}
use Rattle.cm_session.proofs.laws.sessions_never_go_back.Goals as goal

pub returns : goal.returns
returns c = going-rises
