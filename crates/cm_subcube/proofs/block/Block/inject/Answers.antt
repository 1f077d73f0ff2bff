use Rattle.cm_model.specs.Steps.{Inject}
use Rattle.cm_subcube.proofs.Going.{IsBlock-stepped}
use Rattle.cm_subcube.proofs.block.Block.inject.Goals as goal

pub invariant_of-self : goal.invariant_of-self
invariant_of-self c = IsBlock-stepped _ Inject _ _ _ _ c.inject.ensures.value c.self.invariant
