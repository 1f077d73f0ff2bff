-- Many bits of a chip put at once: ours.
use Rattle.std.specs.Prelude.{ℕ, Bool, List, slice_set}
use Rattle.cm_model.specs.Processor.{Processor}
use Rattle.cm_model.specs.Chip.{each_processor, processor_at}
use Rattle.cm_model.specs.Letters.{with_field}

-- the chip with a number in a memory field of a processor
unfoldable pub with_memory_field : List Processor → ℕ → ℕ → ℕ → ℕ → List Processor
with_memory_field chip p at len number =
    slice_set chip p (record (processor_at chip p) { memory = with_field (processor_at chip p).memory at len number })

-- the chip with what the function gives for each processor in a flag
unfoldable pub with_flag_plane : List Processor → ℕ → (ℕ → Bool) → List Processor
with_flag_plane chip number plane =
    each_processor
    (λ p. record (processor_at chip p) { flags = slice_set (processor_at chip p).flags number (plane p) })

-- the chip with what the function gives for each processor at an address of memory
unfoldable pub with_memory_plane : List Processor → ℕ → (ℕ → Bool) → List Processor
with_memory_plane chip address plane =
    each_processor
    (λ p. record (processor_at chip p) { memory = slice_set (processor_at chip p).memory address (plane p) })
