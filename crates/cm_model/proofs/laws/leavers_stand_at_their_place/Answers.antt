use Rattle.cm_model.proofs.Leaving.{leaver_is}
use Rattle.cm_model.proofs.laws.leavers_stand_at_their_place.Goals as goal

pub returns : goal.returns
returns c = leaver_is
