use Rattle.cm_model.proofs.Parts.{steps_rise}
use Rattle.cm_model.proofs.Sinces.{sinces_differ}
use Rattle.cm_model.specs.RunLaws.{state_at}
use Rattle.cm_model.proofs.run_laws.sinces_stay_apart.Goals as goal

pub returns : goal.returns
returns c = λ n cap machine acts count b. sinces_differ b (state_at n cap machine acts count).standing
    (steps_rise n cap machine acts count b)
