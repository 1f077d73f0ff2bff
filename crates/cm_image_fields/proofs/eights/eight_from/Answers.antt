use Rattle.cm_image_fields.proofs.Turning.{eight_follow}
use Rattle.cm_image_fields.proofs.eights.eight_from.Goals as goal

pub returns : goal.returns
returns c = record { value = eight_follow c.args.first c.requires.within }
