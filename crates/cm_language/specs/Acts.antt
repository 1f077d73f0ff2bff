-- The acts of a macro, bit by bit: Hillis 1985 tells the sum, the others are ours.
use Rattle.std.specs.Prelude.{ℕ, ◌+◌, ◌-◌, Bool, true, false, List, [], ◌∷◌, ◌++◌, map, if◌then◌else◌}
use Rattle.std.specs.List.{flat_map, range_with_len}
use Rattle.cm_bits.specs.Bit.{bit}
use Rattle.cm_bits.specs.Span.{Span}
use Rattle.cm_bits.specs.declared.plane.Dir.TheVariants.{North}
use Rattle.cm_model.specs.declared.act.Nano.{Nano}
use Rattle.cm_model.specs.declared.act.Act.{Act}
use Rattle.cm_model.specs.declared.act.Act.TheVariants as act
use Rattle.cm_model.specs.Processor.{ZERO}
use Rattle.cm_model.specs.Each.{tabulate}
use Rattle.cm_language.specs.declared.macros.Macro.{Macro}
use Rattle.cm_language.specs.declared.macros.Macro.TheVariants.{Add, Sub, Less, Equal, Move, Select, Const, Shift, Mul}
use Rattle.cm_language.specs.declared.macros.Macro.TheVariants.{Set, Clear}
use Rattle.cm_language.specs.declared.macros.Context.{Context}
use Rattle.cm_language.specs.declared.macros.Context.TheVariants.{Always, On, Off}
use Rattle.cm_language.specs.Effect.{CARRY, FACTOR}

-- ---- truth tables, by the number of their byte

-- each entry is A
abbrev pub TABLE_OF_A : ℕ
TABLE_OF_A = 0xf0

-- each entry is B
abbrev pub TABLE_OF_B : ℕ
TABLE_OF_B = 0xcc

-- each entry is F
abbrev pub TABLE_OF_F : ℕ
TABLE_OF_F = 0xaa

-- each entry is 0
abbrev pub ALWAYS_0 : ℕ
ALWAYS_0 = 0x00

-- each entry is 1
abbrev pub ALWAYS_1 : ℕ
ALWAYS_1 = 0xff

-- A + B + F: the bit of the sum
abbrev pub SUM : ℕ
SUM = 0x96

-- A + B + F: the carry of the sum
abbrev pub SUM_CARRY : ℕ
SUM_CARRY = 0xe8

-- A + not B + F: the bit of the difference
abbrev pub DIFFERENCE : ℕ
DIFFERENCE = 0x69

-- A + not B + F: the carry of the difference
abbrev pub DIFFERENCE_CARRY : ℕ
DIFFERENCE_CARRY = 0xb2

-- what A - B - F borrows
abbrev pub BORROW : ℕ
BORROW = 0x8e

-- A equals B, and F
abbrev pub EQUAL_SO_FAR : ℕ
EQUAL_SO_FAR = 0x82

-- B where F is 1, else A
abbrev pub CHOICE : ℕ
CHOICE = 0xd8

-- ---- acts under a context

-- the flag that an act's condition reads
abbrev pub cond_of : Context → ℕ
cond_of Always = ZERO
cond_of (On f) = f
cond_of (Off f) = f

-- what that flag has to be
abbrev pub sense_of : Context → Bool
sense_of Always = false
sense_of (On f) = true
sense_of (Off f) = false

-- an instruction under a context
abbrev pub nano : Context → ℕ → ℕ → ℕ → ℕ → ℕ → ℕ → Nano
nano context a b read write mem_table flag_table = record {
  a = a;
  b = b;
  read = read;
  write = write;
  cond = cond_of context;
  sense = sense_of context;
  mem_table = mem_table;
  flag_table = flag_table;
  dir = North;
}

-- 1 into a flag
abbrev pub set_flag : Context → ℕ → Nano
set_flag context f = nano context 0 0 ZERO f TABLE_OF_A ALWAYS_1

-- 0 into a flag
abbrev pub clear_flag : Context → ℕ → Nano
clear_flag context f = nano context 0 0 ZERO f TABLE_OF_A ALWAYS_0

-- one instruction for each bit of two fields, with the same tables
abbrev pub each_bit : Context → Span → Span → ℕ → ℕ → ℕ → ℕ → List Nano
each_bit context x y read write mem_table flag_table =
    tabulate 0 x.len (λ i. nano context (x.at + i) (y.at + i) read write mem_table flag_table)

-- the bits of a number into a field
abbrev pub number_bits : Context → Span → ℕ → List Nano
number_bits context d v =
    tabulate 0 d.len
    (λ i. nano context (d.at + i) (d.at + i) ZERO ZERO (if bit v i then ALWAYS_1 else ALWAYS_0) ALWAYS_0)

-- the field without its lowest bits, so many
abbrev pub above : Span → ℕ → Span
above field j = record { at = field.at + j; len = field.len - j }

-- the lowest bits of a field, so many
abbrev pub lowest : Span → ℕ → Span
lowest field count = record { at = field.at; len = count }

-- where bit j of the factor x is 1, y is added to d from bit j up: what does not fit is dropped
unfoldable pub product_round : Span → Span → Span → ℕ → List Nano
product_round d x y j =
    nano Always (x.at + j) (x.at + j) ZERO FACTOR TABLE_OF_A TABLE_OF_A ∷ clear_flag (On FACTOR) CARRY
    ∷ each_bit (On FACTOR) (above d j) (lowest y (d.len - j)) CARRY CARRY SUM SUM_CARRY

-- all rounds, from the factor's lowest bit up
abbrev pub product : Span → Span → Span → List Nano
product d x y = flat_map (product_round d x y) (range_with_len 0 d.len)

-- the instructions of a macro
abbrev pub nanos : Macro → Context → List Nano
nanos (Add d s) c = clear_flag c CARRY ∷ each_bit c d s CARRY CARRY SUM SUM_CARRY
nanos (Sub d s) c = set_flag c CARRY ∷ each_bit c d s CARRY CARRY DIFFERENCE DIFFERENCE_CARRY
nanos (Less x y) c = clear_flag c CARRY ∷ each_bit c x y CARRY CARRY TABLE_OF_A BORROW
nanos (Equal x y) c = set_flag c CARRY ∷ each_bit c x y CARRY CARRY TABLE_OF_A EQUAL_SO_FAR
nanos (Move d s) c = each_bit c d s ZERO ZERO TABLE_OF_B ALWAYS_0
nanos (Select d s f) c = each_bit c d s f ZERO CHOICE ALWAYS_0
nanos (Const d v) c = number_bits c d v
nanos (Shift d) c = clear_flag c CARRY ∷ each_bit c d d CARRY CARRY TABLE_OF_F TABLE_OF_A
nanos (Mul d x y) c = number_bits c d 0 ++ (product d x y ++ clear_flag c FACTOR ∷ clear_flag c CARRY ∷ [])
nanos (Set f) c = set_flag c f ∷ []
nanos (Clear f) c = clear_flag c f ∷ []

-- the acts of a macro under a context
abbrev pub acts_of : Macro → Context → List Act
acts_of m c = map act.Nano (nanos m c)
