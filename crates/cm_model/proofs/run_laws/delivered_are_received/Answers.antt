use Rattle.cm_model.proofs.Delivered.{delivered_are_received}
use Rattle.cm_model.proofs.run_laws.delivered_are_received.Goals as goal

pub returns : goal.returns
returns c = delivered_are_received
