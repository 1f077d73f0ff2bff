use Rattle.lab_meaning.proofs.Programs.{expansions_are_programs}
use Rattle.lab_meaning.proofs.laws.expansions_are_programs.Goals as goal

pub returns : goal.returns
returns c = expansions_are_programs
