use Rattle.std.proofs.Common.{◌≡◌, take}
use Rattle.cm_plain.proofs.machine.PlainChip.copy.Given as goal

abbrev pub invariant-loop-processor : goal.invariant-loop-processor
invariant-loop-processor l = l.processors.items ≡ take l.processor-index l.processor-items
