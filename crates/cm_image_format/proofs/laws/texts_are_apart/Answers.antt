use Rattle.cm_image_format.proofs.Theorems.{texts_are_apart}
use Rattle.cm_image_format.proofs.laws.texts_are_apart.Goals as goal

pub returns : goal.returns
returns c = texts_are_apart
