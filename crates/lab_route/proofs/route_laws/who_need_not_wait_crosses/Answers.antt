use Rattle.lab_route.proofs.Crossing.{crosses}
use Rattle.lab_route.proofs.route_laws.who_need_not_wait_crosses.Goals as goal

pub returns : goal.returns
returns c = crosses
