use Rattle.std.proofs.Common.{◌∙◌, [], None, arith}
use Rattle.cm_model.proofs.Each.{is_each}
use Rattle.cm_router_engine.proofs.routed.leave_by_chip.Goals as goal

pub returns-clause-value : goal.returns-clause-value
returns-clause-value c =
    is_each [] _ _ _ c.loop-chip.invariant.long
    (λ k h. c.loop-chip.invariant.done k (omega (arith, c.chips-chip-end.ensures.value)))

pub returns-clause-going : goal.returns-clause-going
returns-clause-going c =
    is_each None _ _ _ (c.loop-chip.auto.leavers ∙ c.requires.rows)
    (λ k h. c.loop-chip.invariant.gone k (omega (arith, c.chips-chip-end.ensures.value)))
