use Rattle.cm_exchange.proofs.Counting.{orders_come_to_an_end}
use Rattle.cm_exchange.proofs.laws.orders_come_to_an_end.Goals as goal

pub returns : goal.returns
returns c = orders_come_to_an_end
