use Rattle.std.proofs.Common.{arith}
use Rattle.lab_args.proofs.Numbers.{number_is, number_is_not, tells}
use Rattle.lab_args.proofs.operands.of_sixteen.Goals as goal
use Rattle.lab_args.proofs.operands.of_sixteen.Goals.{in_default-via-in-Ok+else-number-lt16}
use Rattle.lab_args.proofs.operands.of_sixteen.Goals.{in_default-via-in_default}

pub returns-in-Ok-clause-value : goal.returns-in-Ok-clause-value
returns-in-Ok-clause-value c =
    number_is 16 c.in-Ok.number c.args.operand c.args.word.now c.in-Ok.ensures.value.0.0.0 c.in-Ok.ensures.value.0.1
    c.if-number-lt16.true

pub returns-in_default-clause-refused : goal.returns-in_default-clause-refused
returns-in_default-clause-refused c =
    elim c.in_default.branch [
      | in_default-via-in-Ok+else-number-lt16 w ↦
          tells _ _ _ (number_is_not 16 c.args.operand c.args.word.now
          (λ h. omega (arith, h.1, w.in-Ok.ensures.value.0.1, w.if-number-lt16.false))) c.operand.ensures
      | in_default-via-in_default w ↦
          tells _ _ _ (number_is_not 16 c.args.operand c.args.word.now
          (λ h. w.in_default.ensures.value.0 (h.0, omega (arith, h.1)))) c.operand.ensures
    ]
