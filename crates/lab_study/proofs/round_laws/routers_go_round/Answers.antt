use Rattle.lab_study.proofs.Rounds.{go_round}
use Rattle.lab_study.proofs.round_laws.routers_go_round.Goals as goal

pub returns : goal.returns
returns c = go_round
