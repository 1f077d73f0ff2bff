use Rattle.cm_image_load.proofs.Going.{shape_on}
use Rattle.cm_image_load.proofs.sourced.shapes_go_on.Goals as goal

pub returns : goal.returns
returns c = shape_on
