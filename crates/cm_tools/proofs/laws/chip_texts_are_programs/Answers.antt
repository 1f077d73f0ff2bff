use Rattle.cm_tools.proofs.Programs.{chip_texts_are_programs}
use Rattle.cm_tools.proofs.laws.chip_texts_are_programs.Goals as goal

pub returns : goal.returns
returns c = chip_texts_are_programs
