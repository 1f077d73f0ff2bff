use Rattle.cm_message.proofs.Messages.{messages_are_read}
use Rattle.cm_message.proofs.laws.messages_are_read.Goals as goal

pub returns : goal.returns
returns c = messages_are_read
