use Rattle.std.proofs.Common.{◌≡◌, take}
use Rattle.cm_plain.proofs.machine.PlainMachine.copy.Given as goal

abbrev pub invariant-loop-chip : goal.invariant-loop-chip
invariant-loop-chip g l = l.chips.items ≡ take l.chip-index l.chip-items
