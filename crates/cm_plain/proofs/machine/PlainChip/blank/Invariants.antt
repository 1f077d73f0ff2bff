use Rattle.std.proofs.Common.{◌≡◌, false, replicate}
use Rattle.cm_model.specs.Each.{tabulate}
use Rattle.cm_plain.proofs.machine.PlainChip.blank.Given as goal

abbrev pub invariant-loop-proc : goal.invariant-loop-proc
invariant-loop-proc l =
    l.processors.items ≡ tabulate 0 l._proc
    (λ p. record { memory = replicate l.addresses false; flags = replicate 16 false })
