-- A chip: sixteen processors, which all step at once. Hillis 1985.
use Rattle.std.specs.Prelude.{◌≡◌, ℕ, ◌<◌, Bool, false, Option, Some, None, List, [], slice_index_or, slice_set}
use Rattle.cm_bits.specs.Bit.{bit}
use Rattle.cm_model.specs.declared.act.Nano.{Nano}
use Rattle.cm_model.specs.Each.{tabulate}
use Rattle.cm_model.specs.Processor.{Processor, value, blank_processor}
use Rattle.cm_model.specs.Instruction.{processor_after}

-- what a function of the processor's number gives for each of the sixteen
abbrev pub each_processor : {X : Type 0} → (ℕ → X) → List X
each_processor f = tabulate 0 16 f

-- what is read where no processor stands
abbrev pub no_processor : Processor
no_processor = record { memory = []; flags = [] }

-- the processor of a number
abbrev pub processor_at : List Processor → ℕ → Processor
processor_at chip p = slice_index_or chip p no_processor

-- all bits and flags 0
unfoldable pub blank_chip : List Processor
blank_chip = each_processor (λ p. blank_processor)

-- the chip after the instruction, where this bit comes in at each processor: all at once, from the old ones
unfoldable pub chip_after : Nano → (ℕ → Bool) → List Processor → List Processor
chip_after nano incoming chip = each_processor (λ p. processor_after nano (incoming p) (processor_at chip p))

-- bit p of the plane is what the function gives for processor p
abbrev pub IsPlane : ℕ → (ℕ → Bool) → Type 0
IsPlane plane f = (p : ℕ) → p < 16 → bit plane p ≡ f p

-- the bit that a plane has of a processor: 0 where there is none
abbrev pub plane_bit : ℕ → Option ℕ → Bool
plane_bit plane None = false
plane_bit plane (Some p) = bit plane p

-- the chip with another bit at an address of a processor
unfoldable pub with_memory_bit : List Processor → ℕ → ℕ → Bool → List Processor
with_memory_bit chip p address b =
    slice_set chip p (record (processor_at chip p) { memory = slice_set (processor_at chip p).memory address b })

-- the chip with another bit in a flag of a processor
unfoldable pub with_flag : List Processor → ℕ → ℕ → Bool → List Processor
with_flag chip p number b =
    slice_set chip p (record (processor_at chip p) { flags = slice_set (processor_at chip p).flags number b })

-- the plane whose bit p is what the function gives for processor p, as a number
unfoldable pub plane_number : (ℕ → Bool) → ℕ
plane_number f = value (each_processor f)
