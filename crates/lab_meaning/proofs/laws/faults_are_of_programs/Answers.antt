use Rattle.lab_meaning.proofs.Programs.{faults_are_of_programs}
use Rattle.lab_meaning.proofs.laws.faults_are_of_programs.Goals as goal

pub returns : goal.returns
returns c = faults_are_of_programs
