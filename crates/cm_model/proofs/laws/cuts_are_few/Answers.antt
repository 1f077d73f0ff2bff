use Rattle.cm_model.proofs.Cuts.{cuts_are_few}
use Rattle.cm_model.proofs.laws.cuts_are_few.Goals as goal

pub returns : goal.returns
returns c = cuts_are_few
