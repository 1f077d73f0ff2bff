use Rattle.lab_study.proofs.ToldRounds.{all_tell_rounds}
use Rattle.lab_study.proofs.round_laws.repeats_tell_rounds.Goals as goal

pub returns : goal.returns
returns c = all_tell_rounds
