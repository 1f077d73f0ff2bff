use Rattle.std.proofs.Common.{◌≡◌}
use Rattle.std.specs.List.{filter, range_with_len}
use Rattle.cm_model.specs.Processor.{SEND, flag}
use Rattle.cm_model.specs.Chip.{processor_at}
use Rattle.cm_plain.proofs.machine.PlainChip.senders.Given as goal

abbrev pub invariant-loop-number : goal.invariant-loop-number
invariant-loop-number l = l.senders.items ≡ filter (λ p. flag (processor_at l.self p) SEND) (range_with_len 0 l.number)
