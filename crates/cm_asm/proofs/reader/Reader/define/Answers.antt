use Rattle.std.proofs.Common.{arith}
use Rattle.cm_asm.proofs.Reading.{told_as_it_is, longer_by_field}
use Rattle.cm_asm.proofs.reader.Reader.define.Goals as goal

pub returns-in_default-clause-fault : goal.returns-in_default-clause-fault
returns-in_default-clause-fault c = grind (arith, told_as_it_is)

pub returns-then-not-is_name-clause-fault : goal.returns-then-not-is_name-clause-fault
returns-then-not-is_name-clause-fault c = grind (arith, told_as_it_is)

pub returns-then-is_some-clause-fault : goal.returns-then-is_some-clause-fault
returns-then-is_some-clause-fault c = grind (arith, told_as_it_is)

pub returns-in-Err-clause-fault : goal.returns-in-Err-clause-fault
returns-in-Err-clause-fault c = grind (arith, told_as_it_is)

pub returns-in-Err-read_short-clause-fault : goal.returns-in-Err-read_short-clause-fault
returns-in-Err-read_short-clause-fault c = grind (arith, told_as_it_is)

pub returns-in-Err-Width-clause-fault : goal.returns-in-Err-Width-clause-fault
returns-in-Err-Width-clause-fault c = grind (arith, told_as_it_is)

pub returns-in-Err-Range-clause-fault : goal.returns-in-Err-Range-clause-fault
returns-in-Err-Range-clause-fault c = grind (arith, told_as_it_is)

pub returns-after-define-clause-fault : goal.returns-after-define-clause-fault
returns-after-define-clause-fault c = grind (arith, told_as_it_is, longer_by_field)
