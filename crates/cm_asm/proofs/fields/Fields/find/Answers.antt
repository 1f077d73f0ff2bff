use Rattle.std.proofs.Common.{ap, ◌∙◌}
use Rattle.cm_language.specs.Names.{field_named}
use Rattle.cm_asm.proofs.Named.{found}
use Rattle.cm_asm.proofs.fields.Fields.find.Goals as goal

pub returns : goal.returns
returns c =
    c.copied.ensures ∙ (c.get.ensures.value ∙ found c.self.inside.by_name.entries c.args.name.now)
    ∙ ap (λ fields. field_named fields c.args.name.now) c.self.view_is
