use Rattle.cm_model.proofs.Moments.{deliveries_are_of_messages}
use Rattle.cm_model.proofs.delivery_laws.deliveries_are_of_messages.Goals as goal

pub returns : goal.returns
returns c = deliveries_are_of_messages
