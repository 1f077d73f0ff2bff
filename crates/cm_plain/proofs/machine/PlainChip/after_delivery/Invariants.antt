use Rattle.std.proofs.Common.{◌≡◌}
use Rattle.std.specs.List.{find}
use Rattle.cm_model.specs.Each.{tabulate}
use Rattle.cm_model.specs.Chip.{processor_at}
use Rattle.cm_model.specs.Letters.{is_for, processor_after_delivery}
use Rattle.cm_plain.proofs.machine.PlainChip.after_delivery.Given as goal

abbrev pub invariant-loop-number : goal.invariant-loop-number
invariant-loop-number l =
    l.processors.items ≡ tabulate 0 l.number
    (λ p. processor_after_delivery (find (is_for p) l.messages) (processor_at l.self p))
