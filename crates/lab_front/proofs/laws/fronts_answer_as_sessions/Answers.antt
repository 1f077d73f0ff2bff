use Rattle.lab_front.proofs.Alike.{fronts_answer_as_sessions}
use Rattle.lab_front.proofs.laws.fronts_answer_as_sessions.Goals as goal

pub returns : goal.returns
returns c = fronts_answer_as_sessions
