use Rattle.cm_model.proofs.Kept.{routing-run_of}
use Rattle.cm_model.proofs.run_laws.routing_is_kept.Goals as goal

pub returns : goal.returns
returns c = routing-run_of
