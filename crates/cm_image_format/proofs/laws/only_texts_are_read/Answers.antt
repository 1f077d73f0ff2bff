use Rattle.cm_image_format.proofs.Theorems.{only_texts_are_read}
use Rattle.cm_image_format.proofs.laws.only_texts_are_read.Goals as goal

pub returns : goal.returns
returns c = only_texts_are_read
