use Rattle.cm_model.specs.Steps.{Deliver}
use Rattle.cm_subcube.proofs.Going.{IsBlock-stepped}
use Rattle.cm_subcube.proofs.block.Block.deliver.Goals as goal

pub invariant_of-self : goal.invariant_of-self
invariant_of-self c = IsBlock-stepped _ Deliver _ _ _ _ c.deliver.ensures.value c.self.invariant
