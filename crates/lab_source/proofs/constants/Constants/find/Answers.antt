use Rattle.std.proofs.Common.{ap, ◌∙◌}
use Rattle.lab_source.specs.Layout.{number_named}
use Rattle.lab_source.proofs.Named.{found}
use Rattle.lab_source.proofs.constants.Constants.find.Goals as goal

pub returns : goal.returns
returns c =
    c.copied.ensures ∙ (c.get.ensures.value ∙ found c.self.inside.by_name.entries c.args.name.now)
    ∙ ap (λ constants. number_named constants c.args.name.now) c.self.view_is
