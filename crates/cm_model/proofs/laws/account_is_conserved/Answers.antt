use Rattle.cm_model.proofs.Accounting.{account_is_conserved}
use Rattle.cm_model.proofs.laws.account_is_conserved.Goals as goal

pub returns : goal.returns
returns c = account_is_conserved
