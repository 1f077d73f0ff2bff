-- A chip of planes after a plane was put into a flag or at an address.
use Rattle.std.proofs.Common.{◌≡◌, ℕ, List, map, set}
use Rattle.std.proofs.lemmas.List.{map-set}
use Rattle.cm_bits.specs.Bit.{bit}
use Rattle.cm_model.specs.Chip.{processor_at, no_processor}
use Rattle.cm_model.proofs.Each.{same_each_below}
use Rattle.cm_element.specs.Planes.{processor_in, chip_of}
use Rattle.cm_element.specs.Wide.{with_flag_plane, with_memory_plane}
use Rattle.cm_element.proofs.Planes.{processor_at-chip_of}

-- planes with another one for a flag are the chip with that plane there
pub put_flag_plane : (memory flags : List ℕ) (number word : ℕ)
    → chip_of memory (set flags number word) ≡ with_flag_plane (chip_of memory flags) number (bit word)
unfolding chip_of with_flag_plane
put_flag_plane memory flags number word =
    same_each_below no_processor 16 (processor_in memory (set flags number word))
    (λ p. record (processor_at (chip_of memory flags) p) {
      flags = set (processor_at (chip_of memory flags) p).flags number (bit word p);
    })
    (λ p h. let here = processor_at-chip_of memory flags p h in
    rw here (λ i. record {
      memory = map (λ plane. bit plane p) memory;
      flags = map-set (λ plane. bit plane p) flags number word i;
    }))

-- planes with another one at an address are the chip with that plane there
pub put_memory_plane : (memory flags : List ℕ) (address word : ℕ)
    → chip_of (set memory address word) flags ≡ with_memory_plane (chip_of memory flags) address (bit word)
unfolding chip_of with_memory_plane
put_memory_plane memory flags address word =
    same_each_below no_processor 16 (processor_in (set memory address word) flags)
    (λ p. record (processor_at (chip_of memory flags) p) {
      memory = set (processor_at (chip_of memory flags) p).memory address (bit word p);
    })
    (λ p h. let here = processor_at-chip_of memory flags p h in
    rw here (λ i. record {
      memory = map-set (λ plane. bit plane p) memory address word i;
      flags = map (λ plane. bit plane p) flags;
    }))
