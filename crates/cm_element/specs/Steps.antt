-- Where the rows of an instruction lie, and what its chips send and take in. Ours.
use Rattle.std.specs.Prelude.{◌≡◌, ℕ, ◌+◌, ◌*◌, ◌<◌, ◌≤◌, Bool, List, cond, length, slice_index}
use Rattle.std.specs.Bool.{beq}
use Rattle.cm_bits.specs.Bit.{bit}
use Rattle.cm_rows.specs.declared.places.Places.{Places}
use Rattle.cm_model.specs.declared.act.Nano.{Nano}
use Rattle.cm_model.specs.Processor.{Processor, memory_bit, flag, entry}
use Rattle.cm_model.specs.Instruction.{flag_output, holds}
use Rattle.cm_model.specs.Chip.{IsPlane, processor_at}
use Rattle.cm_model.specs.Place.{predecessor}
use Rattle.cm_model.specs.Array.{Chips, chip_at, chain_output}

-- each row begins as many strides on as its number says, which is that of an address or a flag
pub record ArePlaces (nano : Nano) (stride : ℕ) (at : Places) : Type 0 where
  pub a : at.a ≡ nano.a * stride
  pub b : at.b ≡ nano.b * stride
  pub read : at.read ≡ nano.read * stride
  pub write : at.write ≡ nano.write * stride
  pub cond : at.cond ≡ nano.cond * stride
  pub a_below : nano.a < 4096
  pub b_below : nano.b < 4096
  pub read_below : nano.read < 16
  pub write_below : nano.write < 16
  pub cond_below : nano.cond < 16

-- what comes in at each processor along the chain of its chip
abbrev pub along_chain : Nano → List Processor → ℕ → Bool
along_chain nano chip p = chain_output nano chip (predecessor p)

-- at each chip's number stands the plane of what a table gives its processors
pub record AreLookedUp (table : ℕ) (nano : Nano) (chips : Chips) (planes : List ℕ) : Type 0 where
  pub each : (c : ℕ) → c < length chips → IsPlane (slice_index planes c)
      (λ p. entry table (memory_bit (processor_at (chip_at chips c) p) nano.a)
      (memory_bit (processor_at (chip_at chips c) p) nano.b) (flag (processor_at (chip_at chips c) p) nano.read))

-- at each chip's number stands the plane of its flag outputs
pub record AreSent (nano : Nano) (chips : Chips) (planes : List ℕ) : Type 0 where
  pub each : (c : ℕ) → c < length chips
      → IsPlane (slice_index planes c) (λ p. flag_output nano (processor_at (chip_at chips c) p))

-- at each chip's number stands the plane of where the condition holds
pub record AreHolding (nano : Nano) (chips : Chips) (planes : List ℕ) : Type 0 where
  pub each : (c : ℕ) → c < length chips
      → IsPlane (slice_index planes c) (λ p. holds nano (processor_at (chip_at chips c) p))

-- in the row at a place each of so many planes was stored where its processors' condition holds;
-- the list is else as it was
pub record IsStored (row : ℕ) (holds planes old new : List ℕ) : Type 0 where
  pub each : (c : ℕ) → c < length planes → (p : ℕ) → bit (slice_index new (row + c)) p
      ≡ cond (bit (slice_index holds c) p) (bit (slice_index planes c) p) (bit (slice_index old (row + c)) p)
  pub below : (i : ℕ) → i < row → slice_index new i ≡ slice_index old i
  pub above : (i : ℕ) → row + length planes ≤ i → slice_index new i ≡ slice_index old i

-- each plane has what comes in where the condition holds, else what the written flag has
pub record AreMerged (sense : Bool) (at : Places) (flags old new : List ℕ) : Type 0 where
  pub each : (c : ℕ) → c < length old → IsPlane (slice_index new c)
      (λ p. cond (beq (bit (slice_index flags (at.cond + c)) p) sense) (bit (slice_index old c) p)
      (bit (slice_index flags (at.write + c)) p))
