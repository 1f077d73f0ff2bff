-- A chip at which an injection changes nothing. Ours.
use Rattle.std.specs.Prelude.{◌≡◌, ℕ, List, []}
use Rattle.cm_model.specs.declared.message.Message.{Message}
use Rattle.cm_model.specs.Processor.{Processor}
use Rattle.cm_model.specs.Letters.{senders_taken, chip_after_injection}
use Rattle.cm_model.specs.OneChip.{taken_here}

-- nobody's message is taken, whatever room there is, and nobody was acknowledged
pub record IsIdle (chip : List Processor) : Type 0 where
  pub nobody : (cap standing : ℕ) → senders_taken cap standing chip ≡ []
  pub same : chip ≡ chip_after_injection [] chip

-- where these messages stand and there is room for cap, nobody's message is taken, and nobody was acknowledged
pub record IsPassedOver (cap : ℕ) (ms : List Message) (chip : List Processor) : Type 0 where
  pub nobody : taken_here cap ms chip ≡ []
  pub same : chip ≡ chip_after_injection [] chip
