use Rattle.cm_image_load.proofs.Waiting.{no_chips}
use Rattle.cm_image_load.proofs.waiting_chips.WaitingChips.new.Goals as goal

pub returns : goal.returns
returns c = record { value = no_chips c.in_ok-memory.memory.items c.in_ok-flags.flags.items }
