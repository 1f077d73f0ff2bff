use Rattle.lab_study.proofs.Agreeing.{counts_agree}
use Rattle.lab_study.proofs.study_laws.counts_agree_with_the_account.Goals as goal

pub returns : goal.returns
returns c = counts_agree
