use Rattle.cm_weave.proofs.Following.{exchange_is}
use Rattle.cm_weave.proofs.laws.runs_are_exchanges.Goals as goal

pub returns : goal.returns
returns c = exchange_is
