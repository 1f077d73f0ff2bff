use Rattle.lab_front.proofs.Running.{fronts_run_their_programs}
use Rattle.lab_front.proofs.laws.fronts_run_their_programs.Goals as goal

pub returns : goal.returns
returns c = fronts_run_their_programs
