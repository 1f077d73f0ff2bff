use Rattle.cm_session.proofs.Stretching.{going-stretch}
use Rattle.cm_session.proofs.laws.stretches_are_answered_alike.Goals as goal

pub returns : goal.returns
returns c = going-stretch
