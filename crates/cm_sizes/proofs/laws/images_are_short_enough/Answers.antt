use Rattle.cm_sizes.proofs.Fitting.{short_enough}
use Rattle.cm_sizes.proofs.laws.images_are_short_enough.Goals as goal

pub returns : goal.returns
returns c = short_enough c.texts_are_short.ensures
