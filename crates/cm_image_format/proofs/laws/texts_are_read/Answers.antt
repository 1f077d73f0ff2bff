use Rattle.cm_image_format.proofs.Theorems.{texts_are_read}
use Rattle.cm_image_format.proofs.laws.texts_are_read.Goals as goal

pub returns : goal.returns
returns c = texts_are_read
