use Rattle.cm_language.proofs.Places.{macros_stand}
use Rattle.cm_language.proofs.laws.macros_stand_in_their_program.Goals as goal

pub returns : goal.returns
returns c = macros_stand
