-- A flag of a whole chip: Hillis 1985, the global wire.
use Rattle.std.specs.Prelude.{ℕ, Bool, List}
use Rattle.std.specs.List.{list_any}
use Rattle.cm_model.specs.Processor.{Processor, flag}

-- some processor of the chip has the flag
abbrev pub has_flag : ℕ → List Processor → Bool
has_flag number chip = list_any (λ processor. flag processor number) chip
