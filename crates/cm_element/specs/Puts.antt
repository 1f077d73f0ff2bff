-- A number that is put into a field of a processor, where the rows of memory are kept in slots: ours.
use Rattle.std.specs.Prelude.{◌≡◌, ℕ, ◌<◌, List, length, slice_set}
use Rattle.cm_model.specs.Array.{chip_at}
use Rattle.cm_element.specs.Runs.{chips_of, AreRows}
use Rattle.cm_element.specs.Sparse.{spread, AreMemorySlots}
use Rattle.cm_element.specs.Wide.{with_memory_field}

-- so many bits of a number stand in a field, once these rows are kept as they should be
pub record ArePut (words slots : List ℕ) (stride c p at i number : ℕ) (new : List ℕ) : Type 0 where
  pub kept : (capacity used : ℕ) → AreMemorySlots words capacity slots used stride → AreMemorySlots new capacity slots used stride
  pub value : (capacity used : ℕ) → AreMemorySlots words capacity slots used stride
      → (flags : List ℕ) (chips : ℕ) → AreRows (spread words slots stride) flags stride chips → c < chips
      → chips_of (spread new slots stride) flags stride chips
      ≡ slice_set (chips_of (spread words slots stride) flags stride chips) c
      (with_memory_field (chip_at (chips_of (spread words slots stride) flags stride chips) c) p at i number)
  pub long : length new ≡ length words
