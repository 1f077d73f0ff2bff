use Rattle.std.proofs.Common.{◌∙◌, ap}
use Rattle.clap.specs.declared.builder.arg.Arg.{Arg}
use Rattle.cm_args.proofs.Rules.{operand_rule, option_rule}
use Rattle.cm_args.proofs.app.argument.Goals as goal

pub returns-in-Operand-clause-rule : goal.returns-in-Operand-clause-rule
returns-in-Operand-clause-rule c =
    rw c.in-Operand.is
    (operand_rule c.new-argument.result c.required.result c.args.name.now c.new-argument.ensures.rule c.required.ensures)

pub returns-in-Operand-clause-local : goal.returns-in-Operand-clause-local
returns-in-Operand-clause-local c =
    ap (λ (a : Arg). a.global) c.required.ensures ∙ c.new-argument.ensures.optional.1

pub returns-in-Valued-clause-rule : goal.returns-in-Valued-clause-rule
returns-in-Valued-clause-rule c =
    rw c.in-Valued.is
    (option_rule c.new-argument.result c.long.result c.args.name c.new-argument.ensures.rule c.long.ensures)

pub returns-in-Valued-clause-local : goal.returns-in-Valued-clause-local
returns-in-Valued-clause-local c =
    ap (λ (a : Arg). a.global) c.long.ensures ∙ c.new-argument.ensures.optional.1
