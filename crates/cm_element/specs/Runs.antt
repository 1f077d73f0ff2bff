-- A run of chips that is kept as rows: word c of each row is the plane of chip c. Our own choice.
use Rattle.std.specs.Prelude.{◌≡◌, ℕ, ◌+◌, ◌*◌, ◌<◌, ◌≤◌, ◌^◌, List, length, slice_index}
use Rattle.cm_model.specs.Each.{tabulate}
use Rattle.cm_model.specs.Processor.{Processor, ZERO}
use Rattle.cm_element.specs.Planes.{chip_of}

-- the planes of chip c in so many rows, each of which begins a stride after the one before
unfoldable pub chip_column : List ℕ → ℕ → ℕ → ℕ → List ℕ
chip_column rows stride count c = tabulate 0 count (λ i. slice_index rows (i * stride + c))

-- chip c of the rows of memory and of the flags
abbrev pub chip_of_rows : List ℕ → List ℕ → ℕ → ℕ → List Processor
chip_of_rows memory flags stride c = chip_of (chip_column memory stride 4096 c) (chip_column flags stride 16 c)

-- the chips whose rows these are
unfoldable pub chips_of : List ℕ → List ℕ → ℕ → ℕ → List (List Processor)
chips_of memory flags stride chips = tabulate 0 chips (chip_of_rows memory flags stride)

-- a row for each address and for each flag with a word for each chip, and in that of flag ZERO 0
pub record AreRows (memory flags : List ℕ) (stride chips : ℕ) : Type 0 where
  pub memory_words : length memory ≡ 4096 * stride
  pub flag_words : length flags ≡ 16 * stride
  pub within : chips ≤ stride
  pub few : stride < 2 ^ 20
  pub zero : (c : ℕ) → c < chips → slice_index flags (ZERO * stride + c) ≡ 0

-- chip c of planes that lie chip by chip: those of memory 4128 words apart, sixteen of flags
abbrev pub chip_beside : List ℕ → List ℕ → ℕ → List Processor
chip_beside memory flags c =
    chip_of (tabulate 0 4096 (λ a. slice_index memory (c * 4128 + a)))
    (tabulate 0 16 (λ f. slice_index flags (c * 16 + f)))

-- so many of them
unfoldable pub chips_beside : List ℕ → List ℕ → ℕ → List (List Processor)
chips_beside memory flags count = tabulate 0 count (chip_beside memory flags)
