use Rattle.std.proofs.Common.{◌≡◌, ◌∙◌, ap, map}
use Rattle.std.proofs.lemmas.Result.{IfOk-weaker}
use Rattle.clap.specs.Built.{AddsInTurn, AddsSubcommand}
use Rattle.clap.specs.Simple.{App, app_of, shape_of}
use Rattle.clap.specs.declared.builder.command.Command.{Command}
use Rattle.cm_args.specs.Lines.{bare_app, with_subcommands}
use Rattle.cm_args.proofs.Rules.{app-subcommands, bare}
use Rattle.cm_args.proofs.app.program_of.Goals as goal

pub returns : goal.returns
returns c =
    let base : app_of c.subcommand_required.result ≡ bare_app = bare c.new.result c.disable_help_flag.result
    c.disable_help_subcommand.result c.subcommand_required.result c.new.ensures.app c.disable_help_flag.ensures
    c.disable_help_subcommand.ensures c.subcommand_required.ensures in
    IfOk-weaker c.subcommands.result (AddsInTurn AddsSubcommand c.subcommand_required.result c.args.leaves.items)
    (λ (made : Command). app_of made ≡ with_subcommands bare_app (map shape_of c.args.leaves.items))
    (λ made adds. app-subcommands c.subcommand_required.result made c.args.leaves.items c.requires adds
    ∙ ap (λ (app : App). with_subcommands app (map shape_of c.args.leaves.items)) base) c.subcommands.ensures
