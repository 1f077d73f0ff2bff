-- The acts of a phrase, bit by bit: ours.
use Rattle.std.specs.Prelude.{ℕ, ◌+◌, ◌==◌, List, [], ◌∷◌, map, if◌then◌else◌}
use Rattle.std.specs.List.{flat_map, range_with_len}
use Rattle.cm_bits.specs.Bit.{bit}
use Rattle.cm_bits.specs.Span.{Span}
use Rattle.cm_bits.specs.declared.plane.Dir.{Dir}
use Rattle.cm_bits.specs.declared.plane.Dir.TheVariants.{North}
use Rattle.cm_model.specs.declared.act.Nano.{Nano}
use Rattle.cm_model.specs.declared.act.Act.{Act}
use Rattle.cm_model.specs.declared.act.Act.TheVariants as act
use Rattle.cm_model.specs.Processor.{ZERO, NEWS, DAISY}
use Rattle.cm_model.specs.Each.{tabulate}
use Rattle.cm_language.specs.declared.macros.Context.{Context}
use Rattle.cm_language.specs.Effect.{CARRY}
use Rattle.cm_language.specs.Acts.{TABLE_OF_A, TABLE_OF_F, ALWAYS_0, nano, clear_flag, each_bit}
use Rattle.lab_phrases.specs.declared.phrase.Phrase.{Phrase}
use Rattle.lab_phrases.specs.declared.phrase.Phrase.TheVariants.{News, Chain, And, Or, Xor, Not, AddNumber, Test, Keep}

-- ---- truth tables, by the number of their byte

-- each entry is 1 where A and B are
abbrev pub A_AND_B : ℕ
A_AND_B = 0xc0

-- each entry is 1 where A or B is
abbrev pub A_OR_B : ℕ
A_OR_B = 0xfc

-- each entry is 1 where A and B differ
abbrev pub A_XOR_B : ℕ
A_XOR_B = 0x3c

-- each entry is 1 where A is 0
abbrev pub NOT_A : ℕ
NOT_A = 0x0f

-- A + 0 + F: the bit of the sum
abbrev pub SUM_WITH_0 : ℕ
SUM_WITH_0 = 0x5a

-- A + 0 + F: the carry of the sum
abbrev pub CARRY_WITH_0 : ℕ
CARRY_WITH_0 = 0xa0

-- A + 1 + F: the bit of the sum
abbrev pub SUM_WITH_1 : ℕ
SUM_WITH_1 = 0xa5

-- A + 1 + F: the carry of the sum
abbrev pub CARRY_WITH_1 : ℕ
CARRY_WITH_1 = 0xfa

-- ---- a field from another processor

-- into a flag the bit at this address of the processor that sends here: memory stays as it is
abbrev pub fetch : Context → ℕ → Dir → ℕ → Nano
fetch context flag dir address =
    record (nano context address address ZERO flag TABLE_OF_A TABLE_OF_A) { dir = dir }

-- a flag into the memory bit of this address
abbrev pub keep : Context → ℕ → ℕ → Nano
keep context flag address = nano context address address flag ZERO TABLE_OF_F ALWAYS_0

-- both for a bit of a field d, from s
abbrev pub fetch_bit : Context → ℕ → Dir → Span → Span → ℕ → List Nano
fetch_bit context flag dir d s i = fetch context flag dir (s.at + i) ∷ keep context flag (d.at + i) ∷ []

-- for each bit, from the lowest up
abbrev pub fetch_all : Context → ℕ → Dir → Span → Span → List Nano
fetch_all context flag dir d s = flat_map (fetch_bit context flag dir d s) (range_with_len 0 d.len)

-- ---- a number

-- to a bit of a field, and flag 7, a bit of the number is added
abbrev pub add_bit : Context → Span → ℕ → ℕ → Nano
add_bit context d v i =
    nano context (d.at + i) (d.at + i) CARRY CARRY (if bit v i then SUM_WITH_1 else SUM_WITH_0)
    (if bit v i then CARRY_WITH_1 else CARRY_WITH_0)

-- ---- flags

-- A or F
abbrev pub A_OR_F : ℕ
A_OR_F = 0xfa

-- a flag into the lowest bit of a field, 0 into any other
abbrev pub keep_bit : Context → Span → ℕ → ℕ → Nano
keep_bit context d flag i =
    nano context (d.at + i) (d.at + i) flag ZERO (if i == 0 then TABLE_OF_F else ALWAYS_0) ALWAYS_0

-- ---- all

-- the instructions of a phrase
abbrev pub phrase_nanos : Phrase → Context → List Nano
phrase_nanos (News d s dir) c = fetch_all c NEWS dir d s
phrase_nanos (Chain d s) c = fetch_all c DAISY North d s
phrase_nanos (And d s) c = each_bit c d s ZERO ZERO A_AND_B ALWAYS_0
phrase_nanos (Or d s) c = each_bit c d s ZERO ZERO A_OR_B ALWAYS_0
phrase_nanos (Xor d s) c = each_bit c d s ZERO ZERO A_XOR_B ALWAYS_0
phrase_nanos (Not d) c = each_bit c d d ZERO ZERO NOT_A ALWAYS_0
phrase_nanos (AddNumber d v) c = clear_flag c CARRY ∷ tabulate 0 d.len (add_bit c d v)
phrase_nanos (Test f s) c = clear_flag c f ∷ each_bit c s s f f TABLE_OF_A A_OR_F
phrase_nanos (Keep d f) c = tabulate 0 d.len (keep_bit c d f)

-- the acts of a phrase under a context
abbrev pub phrase_acts : Phrase → Context → List Act
phrase_acts phrase context = map act.Nano (phrase_nanos phrase context)
