use Rattle.cm_model.proofs.Receiving.{payloads_are_received}
use Rattle.cm_model.proofs.laws.payloads_are_received.Goals as goal

pub returns : goal.returns
returns c = payloads_are_received
