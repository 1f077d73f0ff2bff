use Rattle.cm_model.proofs.Runs.{run_of-append}
use Rattle.cm_model.proofs.laws.runs_can_be_cut.Goals as goal

pub returns : goal.returns
returns c = run_of-append
