use Rattle.cm_model.proofs.OnePlace.{messages_stand_or_were_delivered}
use Rattle.cm_model.proofs.delivery_laws.messages_stand_or_were_delivered.Goals as goal

pub returns : goal.returns
returns c = messages_stand_or_were_delivered
