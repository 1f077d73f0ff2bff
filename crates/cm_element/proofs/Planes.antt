-- What the processors of a chip of planes read, and that such a chip is whole.
use Rattle.std.proofs.Common.{◌≡◌, ℕ, ◌<◌, false, List, length, map, get_or, replicate, zero, suc, ◌∷◌, refl}
use Rattle.std.proofs.Common.{sym, ap, ◌∙◌}
use Rattle.std.proofs.Math.ListN.{get_or-map}
use Rattle.std.proofs.lemmas.List.{length-map}
use Rattle.cm_bits.specs.Bit.{bit}
use Rattle.cm_model.specs.Processor.{ZERO, memory_bit, flag, blank_processor}
use Rattle.cm_model.specs.Chip.{processor_at, no_processor, blank_chip}
use Rattle.cm_model.specs.Whole.{IsChip}
use Rattle.cm_model.proofs.Bits.{bit-zero}
use Rattle.cm_model.proofs.Each.{get_or-each_below, length-tabulate, same_each_below}
use Rattle.cm_element.specs.Planes.{processor_in, chip_of}

pub processor_at-chip_of : (memory flags : List ℕ) (p : ℕ) → p < 16
    → processor_at (chip_of memory flags) p ≡ processor_in memory flags p
unfolding chip_of
processor_at-chip_of memory flags p h = get_or-each_below 16 (processor_in memory flags) p no_processor h

-- the bit of a processor in a row of planes is its bit of that plane
pub bit_in_row : (planes : List ℕ) (i p : ℕ)
    → get_or (map (λ plane. bit plane p) planes) i false ≡ bit (get_or planes i 0) p
bit_in_row planes i p =
    ap (get_or (map (λ plane. bit plane p) planes) i) (sym (bit-zero p)) ∙ get_or-map (λ plane. bit plane p) planes i 0

pub memory_bit-chip_of : (memory flags : List ℕ) (p a : ℕ) → p < 16
    → memory_bit (processor_at (chip_of memory flags) p) a ≡ bit (get_or memory a 0) p
memory_bit-chip_of memory flags p a h = ap (λ v. memory_bit v a) (processor_at-chip_of memory flags p h)
    ∙ bit_in_row memory a p

pub flag-chip_of : (memory flags : List ℕ) (p f : ℕ) → p < 16
    → flag (processor_at (chip_of memory flags) p) f ≡ bit (get_or flags f 0) p
flag-chip_of memory flags p f h = ap (λ v. flag v f) (processor_at-chip_of memory flags p h) ∙ bit_in_row flags f p

-- a plane for each address and for each flag, and that of flag ZERO is 0
pub record ArePlanes (memory flags : List ℕ) : Type 0 where
  pub memory_planes : length memory ≡ 4096
  pub flag_planes : length flags ≡ 16
  pub zero : get_or flags ZERO 0 ≡ 0

pub planes_are_whole : (memory flags : List ℕ) → ArePlanes memory flags → IsChip (chip_of memory flags)
unfolding chip_of
planes_are_whole memory flags planes = record {
  count = length-tabulate 0 16 (processor_in memory flags);
  each = λ p h. rw (processor_at-chip_of memory flags p h) (record {
    memory = length-map memory (λ plane. bit plane p) ∙ planes.memory_planes;
    flags = length-map flags (λ plane. bit plane p) ∙ planes.flag_planes;
    zero = bit_in_row flags ZERO p ∙ ap (λ (w : ℕ). bit w p) planes.zero ∙ bit-zero p;
  });
}

zeros : (n p : ℕ) → map (λ plane. bit plane p) (replicate n 0) ≡ replicate n false
zeros zero p = refl
zeros (suc n) p = λ i. bit-zero p i ∷ zeros n p i

-- planes of zeros are a blank chip
pub blank_planes : (memory flags : List ℕ) → memory ≡ replicate 4096 0 → flags ≡ replicate 16 0
    → chip_of memory flags ≡ blank_chip
unfolding chip_of blank_chip blank_processor
blank_planes memory flags m f =
    same_each_below no_processor 16 (processor_in memory flags) (λ p. blank_processor)
    (λ p h. λ i. record {
      memory = (ap (map (λ plane. bit plane p)) m ∙ zeros 4096 p) i;
      flags = (ap (map (λ plane. bit plane p)) f ∙ zeros 16 p) i;
    })
