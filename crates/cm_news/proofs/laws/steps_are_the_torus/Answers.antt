use Rattle.cm_news.proofs.Sources.{steps_are_the_torus}
use Rattle.cm_news.proofs.laws.steps_are_the_torus.Goals as goal

pub returns : goal.returns
returns c = steps_are_the_torus
