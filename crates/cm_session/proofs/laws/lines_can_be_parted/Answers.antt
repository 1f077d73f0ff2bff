use Rattle.cm_session.proofs.Lines.{after_lines-append}
use Rattle.cm_session.proofs.laws.lines_can_be_parted.Goals as goal

pub returns : goal.returns
returns c = after_lines-append
