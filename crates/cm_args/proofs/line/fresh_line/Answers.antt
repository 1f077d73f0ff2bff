use Rattle.cm_args.proofs.line.fresh_line.Goals as goal

pub returns-in_default-clause-none : goal.returns-in_default-clause-none
returns-in_default-clause-none c = λ e n cap file line. c.number_operand.ensures.none c.in_default.is n line.dimension

pub returns-in_default-number_operand-clause-none : goal.returns-in_default-number_operand-clause-none
returns-in_default-number_operand-clause-none c =
    λ e n cap file line. c.number_operand-2.ensures.none c.in_default-number_operand.is cap line.room
