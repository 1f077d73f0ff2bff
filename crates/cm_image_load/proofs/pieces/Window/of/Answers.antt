use Rattle.cm_image_load.proofs.Coming.{between_of}
use Rattle.cm_image_load.proofs.pieces.Window.of.Goals as goal

pub returns-clause-value : goal.returns-clause-value
returns-clause-value c = between_of c.args.front.now _ _ _ c.in-Ok.ensures.value c.in-Ok-push_zeros.ensures.ok
