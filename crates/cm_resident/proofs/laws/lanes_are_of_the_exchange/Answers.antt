use Rattle.cm_resident.proofs.Exchanging.{lanes_are_of_the_exchange}
use Rattle.cm_resident.proofs.laws.lanes_are_of_the_exchange.Goals as goal

pub returns : goal.returns
returns c = lanes_are_of_the_exchange
