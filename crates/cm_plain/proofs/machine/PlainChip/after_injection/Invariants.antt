use Rattle.std.proofs.Common.{◌≡◌}
use Rattle.cm_model.specs.Each.{tabulate}
use Rattle.cm_model.specs.Chip.{processor_at}
use Rattle.cm_model.specs.Letters.{is_among, processor_after_injection}
use Rattle.cm_plain.proofs.machine.PlainChip.after_injection.Given as goal

abbrev pub invariant-loop-number : goal.invariant-loop-number
invariant-loop-number l =
    l.processors.items ≡ tabulate 0 l.number
    (λ p. processor_after_injection (is_among p l.taken) (processor_at l.self p))
