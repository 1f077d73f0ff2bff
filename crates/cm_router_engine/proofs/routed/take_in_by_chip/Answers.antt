use Rattle.std.proofs.Common.{arith}
use Rattle.cm_model.proofs.Each.{is_each}
use Rattle.cm_router_engine.proofs.routed.take_in_by_chip.Goals as goal

pub returns : goal.returns
returns c = record {
  value = is_each _ _ _ _ c.loop-chip.invariant.long (λ k h. c.loop-chip.invariant.done k (omega arith));
}
