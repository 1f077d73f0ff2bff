use Rattle.std.proofs.Common.{ap, length, ◌∙◌}
use Rattle.cm_model.specs.Chip.{blank_chip}
use Rattle.cm_model.proofs.Each.{length-tabulate}
use Rattle.cm_image_dump.proofs.sending.room_near.Goals as goal

pub returns : goal.returns
returns c = record { value = ap length c.in_ok-blank.ensures.value ∙ length-tabulate 0 64 (λ k. blank_chip) }
