use Rattle.cm_model.proofs.Parts.{run_of-phases}
use Rattle.cm_model.proofs.run_laws.runs_are_told_by_phases.Goals as goal

pub returns : goal.returns
returns c = run_of-phases
