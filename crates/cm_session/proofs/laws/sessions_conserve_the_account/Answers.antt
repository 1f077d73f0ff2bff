use Rattle.cm_session.proofs.Accounts.{account_is_conserved}
use Rattle.cm_session.proofs.laws.sessions_conserve_the_account.Goals as goal

pub returns : goal.returns
returns c = account_is_conserved
