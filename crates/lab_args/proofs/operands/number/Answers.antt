use Rattle.std.proofs.Common.{◌^◌, arith}
use Rattle.lab_args.proofs.Numbers.{number_is, number_is_not, tells}
use Rattle.lab_args.proofs.operands.number.Goals as goal

pub returns-in-Ok-clause-value : goal.returns-in-Ok-clause-value
returns-in-Ok-clause-value c =
    number_is (2 ^ 16) c.in-Ok.number c.args.operand c.args.word.now c.in-Ok.ensures.value.0.0.0
    c.in-Ok.ensures.value.0.1 (omega (arith, c.in-Ok.ensures.value.0.0.1, c.in-Ok.ensures.value.0.1))

pub returns-in-Err-clause-refused : goal.returns-in-Err-clause-refused
returns-in-Err-clause-refused c =
    tells _ _ _ (number_is_not (2 ^ 16) c.args.operand c.args.word.now c.in-Err.ensures.value.0) c.operand.ensures
