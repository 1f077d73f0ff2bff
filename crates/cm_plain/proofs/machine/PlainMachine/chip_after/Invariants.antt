use Rattle.std.proofs.Common.{◌≡◌}
use Rattle.cm_model.specs.Each.{tabulate}
use Rattle.cm_model.specs.Instruction.{processor_after}
use Rattle.cm_model.specs.Chip.{processor_at}
use Rattle.cm_model.specs.Array.{chip_at, incoming}
use Rattle.cm_plain.proofs.machine.PlainMachine.chip_after.Given as goal

abbrev pub invariant-loop-number : goal.invariant-loop-number
invariant-loop-number g l =
    l.processors.items ≡ tabulate 0 l.number
    (λ p. processor_after l.nano (incoming g.row.N l.nano l.self l.chip p) (processor_at (chip_at l.self l.chip) p))
