use Rattle.std.proofs.Common.{◌∙◌}
use Rattle.cm_element.proofs.run.memory.turn_square.Goals as goal

pub returns-clause-value : goal.returns-clause-value
returns-clause-value g c = λ p k few small.
    c.put_square.ensures.value p k few small ∙ c.transpose.ensures.value p k few small
    ∙ c.read_square.ensures.value k p small few
