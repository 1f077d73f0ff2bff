use Rattle.cm_language.proofs.ReadingBack.{listings_are_their_own}
use Rattle.cm_language.proofs.laws.listings_are_their_own.Goals as goal

pub returns : goal.returns
returns c = listings_are_their_own
