use Rattle.cm_image_format.proofs.Theorems.{texts_have_no_fault}
use Rattle.cm_image_format.proofs.laws.texts_have_no_fault.Goals as goal

pub returns : goal.returns
returns c = texts_have_no_fault
