use Rattle.cm_model.proofs.Keeping.{IsMachine-run_of}
use Rattle.cm_model.proofs.laws.runs_keep_machines.Goals as goal

pub returns : goal.returns
returns c = IsMachine-run_of
