use Rattle.std.proofs.Common.{ap, ◌∙◌}
use Rattle.cm_image_format.specs.Whole.{text_of}
use Rattle.cm_tools.proofs.PlainRouting.{blank_routing}
use Rattle.cm_tools.proofs.blanks.fresh.Goals as goal

pub returns-in-Ok-blank_image-clause-value : goal.returns-in-Ok-blank_image-clause-value
returns-in-Ok-blank_image-clause-value c =
    c.in-Ok-blank_image.ensures.value
    ∙ ap (text_of c.args.n c.args.cap) (blank_routing c.args.n _ c.in-Ok.ensures.value)
