use Rattle.cm_language.proofs.ReadingBack.{listings_read_back}
use Rattle.cm_language.proofs.laws.listings_read_back.Goals as goal

pub returns : goal.returns
returns c = listings_read_back
