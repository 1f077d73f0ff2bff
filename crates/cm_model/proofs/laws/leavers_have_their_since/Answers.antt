use Rattle.cm_model.proofs.Choosing.{leaver_has_its_since}
use Rattle.cm_model.proofs.laws.leavers_have_their_since.Goals as goal

pub returns : goal.returns
returns c = leaver_has_its_since
