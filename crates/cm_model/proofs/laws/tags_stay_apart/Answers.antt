use Rattle.cm_model.proofs.Tags.{tags_stay_apart}
use Rattle.cm_model.proofs.laws.tags_stay_apart.Goals as goal

pub returns : goal.returns
returns c = tags_stay_apart
