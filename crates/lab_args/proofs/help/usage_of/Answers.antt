use Rattle.std.proofs.Common.{[], sym, ap, ◌∙◌}
use Rattle.std.specs.Prelude.{fold}
use Rattle.std.proofs.lemmas.Iterator.Splits.{YieldsList-from_lines}
use Rattle.std.proofs.lemmas.Iterator.Consumers.{YieldsList-end}
use Rattle.lab_args.specs.declared.help.TheConstants.{HELP}
use Rattle.lab_args.specs.Usage.{usage_of, with_usage}
use Rattle.lab_args.proofs.UsageLemmas.{one_line_more}
use Rattle.lab_args.proofs.help.usage_of.Goals as goal

pub loop-line-preserved : goal.loop-line-preserved
loop-line-preserved c =
    c.in_ok-push_usage.ensures.ok ∙ ap (λ told. with_usage c.args.command.now told c.in-Some.line.now) c.loop-line.invariant
    ∙ sym (one_line_more (with_usage c.args.command.now) [] c.loop-line.yielded c.in-Some.line)

pub returns : goal.returns
unfolding usage_of
returns c =
    let all = YieldsList-end (YieldsList-from_lines HELP.now (cc)) c.loop-line.yielded _
    c.loop-line.yielded_by _ _ c.in-None.is c.next.ensures.steps in
    record { value = c.loop-line.invariant ∙ ap (fold (with_usage c.args.command.now) []) all.0 }
