use Rattle.cm_subcube.proofs.Sparing.{cuts_are_spared}
use Rattle.cm_subcube.proofs.laws.cuts_are_spared.Goals as goal

pub returns : goal.returns
returns c = cuts_are_spared
