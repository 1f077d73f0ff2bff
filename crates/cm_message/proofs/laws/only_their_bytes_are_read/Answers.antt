use Rattle.cm_message.proofs.Messages.{only_their_bytes_are_read}
use Rattle.cm_message.proofs.laws.only_their_bytes_are_read.Goals as goal

pub returns : goal.returns
returns c = only_their_bytes_are_read
