use Rattle.lab_data.proofs.ReadingBack.{numbers_read_back}
use Rattle.lab_data.proofs.data_laws.numbers_read_back.Goals as goal

pub returns : goal.returns
returns c = numbers_read_back
