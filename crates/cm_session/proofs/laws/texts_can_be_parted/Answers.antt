use Rattle.cm_session.proofs.Lines.{lines_after, lines_of-append}
use Rattle.cm_session.proofs.laws.texts_can_be_parted.Goals as goal

pub returns : goal.returns
returns c = λ text more. record { more = lines_after text more; is = lines_of-append text more }
