use Rattle.cm_model.proofs.Apart.{deliveries_are_apart}
use Rattle.cm_model.proofs.laws.deliveries_are_apart.Goals as goal

pub returns : goal.returns
returns c = deliveries_are_apart
