use Rattle.lab_front.proofs.ReadingBack.{fronts_read_back}
use Rattle.lab_front.proofs.laws.fronts_read_back.Goals as goal

pub returns : goal.returns
returns c = fronts_read_back
