use Rattle.std.proofs.Common.{◌≡◌, ◌++◌, map}
use Rattle.std.proofs.lemmas.Result.{IfOk-weaker}
use Rattle.clap.specs.Walk.{rule_of, texts}
use Rattle.cm_args.specs.Lines.{option_with_value, optional_operand, required_operand, rules_of_leaf}
use Rattle.cm_args.proofs.Rules.{leaf_rules}
use Rattle.cm_args.proofs.app.add_arguments.Goals as goal

pub returns-clause-rules : goal.returns-clause-rules
returns-clause-rules c =
    IfOk-weaker c.add_each-3.result
    (λ (u : _). map rule_of c.add_each-3.new.arguments.items
    ≡ map rule_of c.add_each-2.new.arguments.items ++ map option_with_value (texts c.args.options.now))
    (λ (u : _). map rule_of c.add_each-3.new.arguments.items ≡ map rule_of c.args.arguments.now.items
    ++ rules_of_leaf (texts c.args.operands.now) (texts c.args.further.now) (texts c.args.options.now))
    (λ u added. leaf_rules (map rule_of c.args.arguments.now.items) (map rule_of c.add_each.new.arguments.items)
    (map rule_of c.add_each-2.new.arguments.items) (map rule_of c.add_each-3.new.arguments.items)
    (map required_operand (texts c.args.operands.now)) (map optional_operand (texts c.args.further.now))
    (map option_with_value (texts c.args.options.now)) c.in_ok-add_each.ensures.rules c.in_ok-add_each-2.ensures.rules
    added) c.add_each-3.ensures.rules
