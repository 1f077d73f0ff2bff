use Rattle.std.proofs.Common.{◌^◌, ◌∙◌, ap, length}
use Rattle.cm_model.specs.Array.{after_nano}
use Rattle.cm_model.proofs.Each.{length-tabulate}
use Rattle.cm_plain.proofs.machine.PlainMachine.step.Goals as goal

pub invariant_of-self : goal.invariant_of-self
unfolding after_nano
invariant_of-self g c =
    (c.chips_after.ensures.dimension, ap length c.in_ok-chips.ensures.value ∙ length-tabulate 0 (2 ^ g.row.N) _)
