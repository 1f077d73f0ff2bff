use Rattle.cm_model.specs.Steps.{Cross}
use Rattle.cm_subcube.proofs.Going.{IsBlock-stepped}
use Rattle.cm_subcube.proofs.block.Block.cross.Goals as goal

pub invariant_of-self : goal.invariant_of-self
invariant_of-self c = IsBlock-stepped _ (Cross c.args.dim) _ _ _ _ c.cross.ensures.value c.self.invariant
