-- A table that is looked up at each place of a row of planes. Ours.
use Rattle.std.specs.Prelude.{ℕ, ◌<◌, List, length, slice_index}
use Rattle.cm_bits.specs.Bit.{bit}
use Rattle.cm_model.specs.Processor.{entry}
use Rattle.cm_model.specs.Chip.{IsPlane}

-- at each place the plane of the table's entries at the bits that the three rows have there
pub record IsLookedUp (table : ℕ) (a b f row : List ℕ) : Type 0 where
  pub each : (k : ℕ) → k < length a → IsPlane (slice_index row k)
      (λ p. entry table (bit (slice_index a k) p) (bit (slice_index b k) p) (bit (slice_index f k) p))
