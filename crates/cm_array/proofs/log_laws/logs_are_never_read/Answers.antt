use Rattle.cm_array.proofs.Behind.{logs_are_never_read}
use Rattle.cm_array.proofs.log_laws.logs_are_never_read.Goals as goal

pub returns : goal.returns
returns c = logs_are_never_read
