use Rattle.cm_image_dump.proofs.Longest.{texts_short}
use Rattle.cm_image_dump.proofs.laws.texts_are_short.Goals as goal

pub returns : goal.returns
returns c = texts_short c.cuts_are_few.ensures
