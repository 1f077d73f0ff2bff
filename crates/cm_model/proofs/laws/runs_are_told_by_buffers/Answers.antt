use Rattle.cm_model.proofs.Runs.{run_of-acted}
use Rattle.cm_model.proofs.laws.runs_are_told_by_buffers.Goals as goal

pub returns : goal.returns
returns c = run_of-acted
