-- A chip that is kept as planes: bit p of each plane is that of processor p. Our own choice.
use Rattle.std.specs.Prelude.{ℕ, List, map}
use Rattle.cm_bits.specs.Bit.{bit}
use Rattle.cm_model.specs.Processor.{Processor}
use Rattle.cm_model.specs.Chip.{each_processor}

-- what processor p has of the planes of memory and of the flags
abbrev pub processor_in : List ℕ → List ℕ → ℕ → Processor
processor_in memory flags p =
    record { memory = map (λ plane. bit plane p) memory; flags = map (λ plane. bit plane p) flags }

-- the chip whose planes these are
unfoldable pub chip_of : List ℕ → List ℕ → List Processor
chip_of memory flags = each_processor (processor_in memory flags)
