use Rattle.cm_model.proofs.Accounting.{injected_stand_in_the_account}
use Rattle.cm_model.proofs.laws.injected_stand_in_the_account.Goals as goal

pub returns : goal.returns
returns c = injected_stand_in_the_account
