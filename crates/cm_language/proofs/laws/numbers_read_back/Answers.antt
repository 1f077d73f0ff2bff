use Rattle.cm_language.proofs.NumbersKept.{numbers_read_back}
use Rattle.cm_language.proofs.laws.numbers_read_back.Goals as goal

pub returns : goal.returns
returns c = numbers_read_back
