use Rattle.std.proofs.Common.{◌≡◌, List, ◌∙◌, ◌++◌, ap, map, subst, sym, false}
use Rattle.std.proofs.lemmas.List.Elements.{All-nil}
use Rattle.std.proofs.lemmas.Result.{IfOk-weaker}
use Rattle.std.specs.List.{All}
use Rattle.clap.specs.Built.{AddsArg, AddsInTurn}
use Rattle.clap.specs.Simple.{App, app_of, app_of_fields, new_app}
use Rattle.clap.specs.Walk.{rule_of, texts}
use Rattle.clap.specs.declared.builder.arg.Arg.{Arg}
use Rattle.clap.specs.declared.builder.command.Command.{Command}
use Rattle.clap.specs.declared.builder.command.Command.TheViews.{out-Command as fields_of}
use Rattle.cm_args.specs.Lines.{IsLocal, IsLocalArg, leaf_app, rules_of_leaf, with_rules, without_help_flag}
use Rattle.cm_args.proofs.Rules.{app-args, local-args}
use Rattle.cm_args.proofs.app.leaf.Goals as goal

pub returns-clause-app : goal.returns-clause-app
returns-clause-app c =
    let all : All IsLocalArg c.add_arguments.new.arguments.items =
    c.in_ok-add_arguments.ensures.local
    (subst (All IsLocalArg) (sym c.new-arguments.ensures.items) (All-nil IsLocalArg)) in
    let rules : map rule_of c.add_arguments.new.arguments.items
    ≡ rules_of_leaf (texts c.args.operands.now) (texts c.args.further.now) (texts c.args.options.now) =
    c.in_ok-add_arguments.ensures.rules
    ∙ ap (λ (none : List Arg). map rule_of none
    ++ rules_of_leaf (texts c.args.operands.now) (texts c.args.further.now) (texts c.args.options.now))
    c.new-arguments.ensures.items in
    let base : app_of c.disable_help_flag.result ≡ without_help_flag (new_app c.args.name.now) =
    ap app_of_fields c.disable_help_flag.ensures ∙ ap without_help_flag c.new.ensures.app in
    IfOk-weaker c.args-2.result (AddsInTurn AddsArg c.disable_help_flag.result c.add_arguments.new.arguments.items)
    (λ (made : Command). app_of made ≡ leaf_app c.args.name.now (texts c.args.operands.now) (texts c.args.further.now)
    (texts c.args.options.now))
    (λ made adds. app-args c.disable_help_flag.result made c.add_arguments.new.arguments.items all adds
    ∙ (ap (λ (app : App). with_rules app (map rule_of c.add_arguments.new.arguments.items)) base
    ∙ ap (with_rules (without_help_flag (new_app c.args.name.now))) rules)) c.args-2.ensures

pub returns-clause-local : goal.returns-clause-local
returns-clause-local c =
    let all : All IsLocalArg c.add_arguments.new.arguments.items =
    c.in_ok-add_arguments.ensures.local
    (subst (All IsLocalArg) (sym c.new-arguments.ensures.items) (All-nil IsLocalArg)) in
    let base : (fields_of c.disable_help_flag.result).has_globals ≡ false =
    ap (λ (f : _). f.has_globals) c.disable_help_flag.ensures ∙ c.new.ensures.local in
    IfOk-weaker c.args-2.result (AddsInTurn AddsArg c.disable_help_flag.result c.add_arguments.new.arguments.items) IsLocal
    (λ made adds. local-args c.disable_help_flag.result made c.add_arguments.new.arguments.items all base adds)
    c.args-2.ensures
