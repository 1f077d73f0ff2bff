use Rattle.std.proofs.Common.{arith}
use Rattle.cm_asm.proofs.Telling.{number_word}
use Rattle.cm_asm.proofs.listings.sense_word.Goals as goal

pub returns-then-sense : goal.returns-then-sense
returns-then-sense c = record { value = rw c.if-sense.true (number_word 1 (omega arith)) }

pub returns-else-sense : goal.returns-else-sense
returns-else-sense c = record { value = rw c.if-sense.false (number_word 0 (omega arith)) }
