use Rattle.cm_tools.proofs.Programs.{chip_faults_are_faults}
use Rattle.cm_tools.proofs.laws.chip_faults_are_faults.Goals as goal

pub returns : goal.returns
returns c = chip_faults_are_faults
