use Rattle.std.proofs.Common.{arith}
use Rattle.cm_asm.proofs.Thirds.{nano_in_thirds}
use Rattle.cm_asm.proofs.operands.read_nano.Goals as goal

pub returns-in_err-a-clause-value : goal.returns-in_err-a-clause-value
returns-in_err-a-clause-value c = grind (arith, nano_in_thirds)

pub returns-in_err-write-clause-value : goal.returns-in_err-write-clause-value
returns-in_err-write-clause-value c = grind (arith, nano_in_thirds)

pub returns-in_err-mem_table-clause-value : goal.returns-in_err-mem_table-clause-value
returns-in_err-mem_table-clause-value c = grind (arith, nano_in_thirds)

pub returns-clause-value : goal.returns-clause-value
returns-clause-value c = grind (arith, nano_in_thirds)
