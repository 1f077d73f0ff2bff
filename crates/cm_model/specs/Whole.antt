-- What every chip keeps: sixteen processors, their bits and flags, and flag ZERO at 0. Hillis 1985.
use Rattle.std.specs.Prelude.{◌≡◌, ℕ, ◌<◌, List, length, false}
use Rattle.cm_model.specs.Processor.{Processor, ZERO, flag}
use Rattle.cm_model.specs.Chip.{processor_at}

-- 4,096 memory bits, sixteen flags, and ZERO at 0
pub record IsProcessor (processor : Processor) : Type 0 where
  pub memory : length processor.memory ≡ 4096
  pub flags : length processor.flags ≡ 16
  pub zero : flag processor ZERO ≡ false

-- sixteen of them
pub record IsChip (chip : List Processor) : Type 0 where
  pub count : length chip ≡ 16
  pub each : (p : ℕ) → p < 16 → IsProcessor (processor_at chip p)
