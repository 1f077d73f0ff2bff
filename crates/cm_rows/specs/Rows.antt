-- Rows of planes in one list each for memory and flags, and what an instruction leaves in them. Ours.
use Rattle.std.specs.Prelude.{◌≡◌, ◌⊎◌, ℕ, ◌+◌, ◌<◌, ◌≤◌, ◌||◌, Bool, true, false, List}
use Rattle.std.specs.Prelude.{Option, Some, None, cond, length, slice_index}
use Rattle.std.specs.Bool.{beq}
use Rattle.cm_bits.specs.Bit.{bit}
use Rattle.cm_model.specs.Processor.{entry}
use Rattle.cm_model.specs.Chip.{IsPlane}
use Rattle.cm_model.specs.Place.{predecessor}
use Rattle.cm_rows.specs.declared.places.Places.{Places}

-- the instruction stores, where its condition flag has this bit
abbrev pub stores : Bool → Bool → Bool → Bool
stores always sense condition = always || beq condition sense

-- what a table gives a processor, of planes of A, B and F
abbrev pub looked_up : ℕ → ℕ → ℕ → ℕ → ℕ → Bool
looked_up table a b f p = entry table (bit a p) (bit b p) (bit f p)

-- the bit of the processor before, or 0 where there is none
abbrev pub bit_before : (ℕ → Bool) → Option ℕ → Bool
bit_before bits None = false
bit_before bits (Some p) = bits p

-- what a processor is to store: what the table gives it, or where the outputs go along the chain
-- what it gives the one before
abbrev pub plane_output : ℕ → Bool → ℕ → ℕ → ℕ → ℕ → Bool
plane_output table false a b f p = looked_up table a b f p
plane_output table true a b f p = bit_before (looked_up table a b f) (predecessor p)

-- the plane has the output where it is chosen, else what was there
abbrev pub IsChosenOrOld : ℕ → Bool → (ℕ → Bool) → ℕ → ℕ → ℕ → ℕ → ℕ → Type 0
IsChosenOrOld table chained choice a b f old plane =
    IsPlane plane (λ p. cond (choice p) (plane_output table chained a b f p) (bit old p))

-- in the row at a place the words of these numbers are computed from memory and flags; the list is else as it was
pub record IsComputed (table : ℕ) (chained always sense : Bool) (at : Places) (row from to : ℕ)
    (memory flags old new : List ℕ) : Type 0 where
  pub each : (k : ℕ) → from ≤ k → k < to
      → IsChosenOrOld table chained (λ p. stores always sense (bit (slice_index flags (at.cond + k)) p))
      (slice_index memory (at.a + k)) (slice_index memory (at.b + k)) (slice_index flags (at.read + k))
      (slice_index old (row + k)) (slice_index new (row + k))
  pub below : (i : ℕ) → i < row + from → slice_index new i ≡ slice_index old i
  pub above : (i : ℕ) → row + to ≤ i → slice_index new i ≡ slice_index old i

-- a row of so many words that is read lies not before that which is written, or ends before it
abbrev pub IsApart : ℕ → ℕ → ℕ → Type 0
IsApart written read count = (written ≤ read) ⊎ (read + count ≤ written)

-- so many words of each row that is read lie within its list: of A and B within memory, of the flag that is read and
-- of the condition within the flags
pub record AreReadable (at : Places) (count : ℕ) (memory flags : List ℕ) : Type 0 where
  pub a : at.a + count ≤ length memory
  pub b : at.b + count ≤ length memory
  pub read : at.read + count ≤ length flags
  pub cond : at.cond + count ≤ length flags

-- each row of so many words that is read lies not before the row that is written in the same list, or ends before it
pub record AreRowsApart (at : Places) (count : ℕ) : Type 0 where
  pub b : IsApart at.a at.b count
  pub read : IsApart at.write at.read count
  pub cond : IsApart at.write at.cond count
