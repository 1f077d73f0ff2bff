use Rattle.std.proofs.Common.{rules}
use Rattle.cm_array.proofs.Lists.{same_readings}
use Rattle.cm_array.proofs.chip_state.copied_logs.Goals as goal

pub returns : goal.returns
returns c = record { value = same_readings _ _ _ (search rules) (λ k d below. search rules) }
