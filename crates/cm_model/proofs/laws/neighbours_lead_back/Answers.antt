use Rattle.cm_model.proofs.Torus.{neighbours_lead_back}
use Rattle.cm_model.proofs.laws.neighbours_lead_back.Goals as goal

pub returns : goal.returns
returns c = neighbours_lead_back
