use Rattle.std.proofs.Common.{ℕ, List, [], ◌∙◌, get_or}
use Rattle.std.specs.Borrow.{Bor}
use Rattle.cm_args.specs.Lines.{rule_of_kind}
use Rattle.cm_args.proofs.Rules.{local-push, rules-push, rules_more}
use Rattle.cm_args.proofs.app.add_each.Goals as goal

pub loop-name-preserved : goal.loop-name-preserved
loop-name-preserved c =
    let none : Bor (List ℕ) = record { ref_ptr = (0, 0); now = [] } in
    let name = get_or c.args.names.now c.loop-name.name-index none in record {
      rules =
          rules-push c.loop-name.arguments.items c.push.new.self.items c.argument.result
          (rule_of_kind c.args.kind name.now) c.argument.ensures.rule c.in_ok-push.ensures.items
          ∙ rules_more (rule_of_kind c.args.kind) _ _ c.args.names.now c.loop-name.name-index none
          c.loop-name-test.true c.loop-name.invariant.rules;
      local = λ all. local-push c.loop-name.arguments.items c.push.new.self.items c.argument.result
          c.argument.ensures.local c.in_ok-push.ensures.items (c.loop-name.invariant.local all);
    }
