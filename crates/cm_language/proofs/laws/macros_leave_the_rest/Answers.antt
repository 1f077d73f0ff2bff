use Rattle.cm_language.proofs.LeftAlone.{macros_leave_the_rest}
use Rattle.cm_language.proofs.laws.macros_leave_the_rest.Goals as goal

pub returns : goal.returns
returns c = macros_leave_the_rest
