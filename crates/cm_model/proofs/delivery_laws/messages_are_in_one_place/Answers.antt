use Rattle.cm_model.proofs.OnePlace.{messages_are_in_one_place}
use Rattle.cm_model.proofs.delivery_laws.messages_are_in_one_place.Goals as goal

pub returns : goal.returns
returns c = messages_are_in_one_place
