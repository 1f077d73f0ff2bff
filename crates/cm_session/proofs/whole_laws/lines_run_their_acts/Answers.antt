use Rattle.cm_session.proofs.Running.{lines_run_their_acts}
use Rattle.cm_session.proofs.whole_laws.lines_run_their_acts.Goals as goal

pub returns : goal.returns
returns c = lines_run_their_acts
