-- A processor: 4,096 memory bits and sixteen flags, Hillis 1985; the order of a truth table's entries is ours.
use Rattle.std.specs.Prelude.{ℕ, ◌+◌, ◌*◌, Bool, false, List, [], ◌∷◌, take, drop, replicate, slice_index_or}
use Rattle.cm_bits.specs.Bit.{bit, bit_number}

-- what one processor keeps
pub record Processor : Type 0 where
  -- by address
  pub memory : List Bool
  -- by number
  pub flags : List Bool

-- the flag that always reads 0
abbrev pub ZERO : ℕ
ZERO = 8

-- the flag whose OR over all processors is the global wire
abbrev pub GLOBAL : ℕ
GLOBAL = 9

-- the flag that a store sends over the grid
abbrev pub NEWS : ℕ
NEWS = 10

-- the flag that a store sends along the chip's chain
abbrev pub DAISY : ℕ
DAISY = 11

-- the flag that asks the router to take a message
abbrev pub SEND : ℕ
SEND = 12

-- the flag that tells that a message was taken
abbrev pub ACK : ℕ
ACK = 13

-- the flag that tells that a message was delivered, and keeps out the next
abbrev pub RECV : ℕ
RECV = 14

-- the memory bit of an address
abbrev pub memory_bit : Processor → ℕ → Bool
memory_bit processor address = slice_index_or processor.memory address false

-- the flag of a number
abbrev pub flag : Processor → ℕ → Bool
flag processor number = slice_index_or processor.flags number false

-- the entry of a truth table at three bits
abbrev pub entry : ℕ → Bool → Bool → Bool → Bool
entry table a b f = bit table (4 * bit_number a + 2 * bit_number b + bit_number f)

-- the number whose bits, the lowest first, these are
abbrev pub value : List Bool → ℕ
value [] = 0
value (b ∷ bs) = bit_number b + 2 * value bs

-- the value of the memory field of this length at this address
unfoldable pub field_value : Processor → ℕ → ℕ → ℕ
field_value processor at len = value (take len (drop at processor.memory))

-- all bits and flags 0
unfoldable pub blank_processor : Processor
blank_processor = record { memory = replicate 4096 false; flags = replicate 16 false }
