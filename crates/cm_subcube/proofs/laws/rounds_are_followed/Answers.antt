use Rattle.cm_subcube.proofs.Counting.{steps_until-first}
use Rattle.cm_subcube.proofs.Following.{round_is_followed}
use Rattle.cm_subcube.proofs.laws.rounds_are_followed.Goals as goal

pub returns : goal.returns
returns c = record { first = steps_until-first; next = round_is_followed }
