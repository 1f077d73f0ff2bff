-- What one chip gives to the global wire: Hillis 1985.
use Rattle.std.specs.Prelude.{Bool, List}
use Rattle.std.specs.List.{list_any}
use Rattle.cm_model.specs.Processor.{Processor, GLOBAL, flag}

-- some processor of the chip has flag GLOBAL
abbrev pub chip_or : List Processor → Bool
chip_or chip = list_any (λ processor. flag processor GLOBAL) chip
