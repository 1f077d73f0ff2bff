use Rattle.cm_language.proofs.AllMacros.{macros_are_right}
use Rattle.cm_language.proofs.laws.macros_are_right.Goals as goal

pub returns : goal.returns
returns c = macros_are_right
