-- What a macro does in one processor, in whole numbers: ours.
use Rattle.std.specs.Prelude.{ℕ, ◌+◌, ◌-◌, ◌*◌, ◌%◌, ◌^◌, ◌==◌, Bool, true, false, not, nat_lt, nat_le, slice_set}
use Rattle.std.specs.Prelude.{if◌then◌else◌}
use Rattle.cm_bits.specs.Span.{Span}
use Rattle.cm_model.specs.Processor.{Processor, memory_bit, flag, field_value}
use Rattle.cm_model.specs.Letters.{with_field}
use Rattle.cm_language.specs.declared.macros.Macro.{Macro}
use Rattle.cm_language.specs.declared.macros.Macro.TheVariants.{Add, Sub, Less, Equal, Move, Select, Const, Shift, Mul}
use Rattle.cm_language.specs.declared.macros.Macro.TheVariants.{Set, Clear}
use Rattle.cm_language.specs.declared.macros.Context.{Context}
use Rattle.cm_language.specs.declared.macros.Context.TheVariants.{Always, On, Off}

-- the flag that a sum carries through, and in which macros answer
abbrev pub CARRY : ℕ
CARRY = 7

-- the flag in which a product keeps a bit of its factor
abbrev pub FACTOR : ℕ
FACTOR = 6

-- the processor is one of those that the context means
abbrev pub selected : Context → Processor → Bool
selected Always p = true
selected (On f) p = flag p f
selected (Off f) p = not (flag p f)

-- the number in a field
abbrev pub value_of : Processor → Span → ℕ
value_of p field = field_value p field.at field.len

-- how many numbers fit in a field
abbrev pub size : Span → ℕ
size field = 2 ^ field.len

-- the processor with a number in a field
abbrev pub with_value : Span → ℕ → Processor → Processor
with_value field number p = record { memory = with_field p.memory field.at field.len number; flags = p.flags }

-- the processor with a bit in a flag
abbrev pub processor_with_flag : ℕ → Bool → Processor → Processor
processor_with_flag f b p = record { memory = p.memory; flags = slice_set p.flags f b }

-- a processor after a macro that was carried out in it: every right side is over the old values
abbrev pub assigned : Macro → Processor → Processor
assigned (Add d s) p =
    processor_with_flag CARRY (nat_le (size d) (value_of p d + value_of p s))
    (with_value d ((value_of p d + value_of p s) % size d) p)
assigned (Sub d s) p =
    processor_with_flag CARRY (nat_le (value_of p s) (value_of p d))
    (with_value d ((value_of p d + (size d - value_of p s)) % size d) p)
assigned (Less x y) p = processor_with_flag CARRY (nat_lt (value_of p x) (value_of p y)) p
assigned (Equal x y) p = processor_with_flag CARRY (value_of p x == value_of p y) p
assigned (Move d s) p = with_value d (value_of p s) p
assigned (Select d s f) p = if flag p f then with_value d (value_of p s) p else p
assigned (Const d v) p = with_value d v p
assigned (Shift d) p = processor_with_flag CARRY (memory_bit p (d.at + d.len - 1)) (with_value d (2 * value_of p d % size d) p)
assigned (Mul d x y) p =
    processor_with_flag CARRY false (processor_with_flag FACTOR false (with_value d (value_of p x * value_of p y % size d) p))
assigned (Set f) p = processor_with_flag f true p
assigned (Clear f) p = processor_with_flag f false p

-- a processor after a macro under a context
unfoldable pub effect : Macro → Context → Processor → Processor
effect m context p = if selected context p then assigned m p else p
