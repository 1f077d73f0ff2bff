use Rattle.cm_element.proofs.Squares.{after_riffle}
use Rattle.cm_element.proofs.run.square.riffle.Goals as goal

pub returns-clause-value : goal.returns-clause-value
returns-clause-value c = after_riffle c.args.square.now c.requires.square
