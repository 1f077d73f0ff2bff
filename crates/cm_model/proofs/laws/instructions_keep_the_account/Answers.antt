use Rattle.cm_model.proofs.Accounting.{account-nano}
use Rattle.cm_model.proofs.laws.instructions_keep_the_account.Goals as goal

pub returns : goal.returns
returns c = account-nano
