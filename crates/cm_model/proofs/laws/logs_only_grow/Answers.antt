use Rattle.cm_model.proofs.Accounting.{logs_grow}
use Rattle.cm_model.proofs.laws.logs_only_grow.Goals as goal

pub returns : goal.returns
returns c = logs_grow
