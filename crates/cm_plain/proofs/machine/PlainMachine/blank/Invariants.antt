use Rattle.std.proofs.Common.{◌≡◌, false, replicate}
use Rattle.cm_model.specs.Each.{tabulate}
use Rattle.cm_model.specs.Chip.{each_processor}
use Rattle.cm_plain.proofs.machine.PlainMachine.blank.Given as goal

abbrev pub invariant-loop-chip : goal.invariant-loop-chip
invariant-loop-chip g l =
    l.chips.items ≡ tabulate 0 l._chip
    (λ c. each_processor (λ p. record { memory = replicate l.addresses false; flags = replicate 16 false }))
