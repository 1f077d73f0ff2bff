-- Why a macro is refused: ours.
use Rattle.std.specs.Prelude.{◌≡◌, ℕ, ◌^◌, ◌==◌, ◌||◌, Bool, true, false, not, nat_le, Option, Some, None}
use Rattle.std.specs.Prelude.{if◌then◌else◌}
use Rattle.cm_bits.specs.Span.{Span}
use Rattle.cm_bits.specs.Field.{meeting}
use Rattle.cm_bits.specs.declared.field.Meets.{Meets}
use Rattle.cm_bits.specs.declared.field.Meets.TheVariants.{Same, Apart, Partly}
use Rattle.cm_model.specs.Processor.{ZERO, NEWS, DAISY}
use Rattle.cm_language.specs.declared.macros.Macro.{Macro}
use Rattle.cm_language.specs.declared.macros.Macro.TheVariants.{Add, Sub, Less, Equal, Move, Select, Const, Shift, Mul}
use Rattle.cm_language.specs.declared.macros.Macro.TheVariants.{Set, Clear}
use Rattle.cm_language.specs.declared.macros.Context as declared
use Rattle.cm_language.specs.declared.macros.Context.TheVariants.{Always, On, Off}
use Rattle.cm_language.specs.declared.fault.MacroFault.{MacroFault}
use Rattle.cm_language.specs.declared.fault.MacroFault.TheVariants as fault
use Rattle.cm_language.specs.declared.fault.AsmKind.{AsmKind}
use Rattle.cm_language.specs.declared.fault.AsmKind.TheVariants as kind
use Rattle.cm_language.specs.Effect.{CARRY, FACTOR}

-- the fields have bits in common and are not equal
abbrev pub is_partly : Meets → Bool
is_partly Same = false
is_partly Apart = false
is_partly Partly = true

-- the fields have no bit in common
abbrev pub is_apart : Meets → Bool
is_apart Same = false
is_apart Apart = true
is_apart Partly = false

-- two fields of the macro meet in part, or a product's field is not apart from a factor's
abbrev pub overlaps : Macro → Bool
overlaps (Add d s) = is_partly (meeting d s)
overlaps (Sub d s) = is_partly (meeting d s)
overlaps (Less x y) = is_partly (meeting x y)
overlaps (Equal x y) = is_partly (meeting x y)
overlaps (Move d s) = is_partly (meeting d s)
overlaps (Select d s f) = is_partly (meeting d s)
overlaps (Const d v) = false
overlaps (Shift d) = false
overlaps (Mul d x y) = not (is_apart (meeting d x)) || not (is_apart (meeting d y)) || is_partly (meeting x y)
overlaps (Set f) = false
overlaps (Clear f) = false

-- fields have different lengths
abbrev pub lengths_differ : Span → Span → Bool
lengths_differ a b = not (a.len == b.len)

-- two fields of the macro have different lengths, or a number does not fit in its field
abbrev pub misfits : Macro → Bool
misfits (Add d s) = lengths_differ d s
misfits (Sub d s) = lengths_differ d s
misfits (Less x y) = lengths_differ x y
misfits (Equal x y) = lengths_differ x y
misfits (Move d s) = lengths_differ d s
misfits (Select d s f) = lengths_differ d s
misfits (Const d v) = nat_le (2 ^ d.len) v
misfits (Shift d) = false
misfits (Mul d x y) = lengths_differ d x || lengths_differ d y
misfits (Set f) = false
misfits (Clear f) = false

-- the macro writes the flag
abbrev pub writes : Macro → ℕ → Bool
writes (Add d s) f = f == CARRY
writes (Sub d s) f = f == CARRY
writes (Less x y) f = f == CARRY
writes (Equal x y) f = f == CARRY
writes (Move d s) f = false
writes (Select d s g) f = false
writes (Const d v) f = false
writes (Shift d) f = f == CARRY
writes (Mul d x y) f = f == FACTOR || f == CARRY
writes (Set g) f = f == g
writes (Clear g) f = f == g

-- it writes the flag that selects the processors
abbrev pub writes_condition : Macro → declared.Context → Bool
writes_condition m Always = false
writes_condition m (On f) = writes m f
writes_condition m (Off f) = writes m f

-- a flag that no store puts a bit of its own into
abbrev pub is_fixed : ℕ → Bool
is_fixed f = f == ZERO || f == NEWS || f == DAISY

-- it sets or clears a flag that cannot be set
abbrev pub names_fixed : Macro → Bool
names_fixed (Add d s) = false
names_fixed (Sub d s) = false
names_fixed (Less x y) = false
names_fixed (Equal x y) = false
names_fixed (Move d s) = false
names_fixed (Select d s f) = false
names_fixed (Const d v) = false
names_fixed (Shift d) = false
names_fixed (Mul d x y) = false
names_fixed (Set f) = is_fixed f
names_fixed (Clear f) = is_fixed f

-- some processors may be left out
abbrev pub is_conditional : declared.Context → Bool
is_conditional Always = false
is_conditional (On f) = true
is_conditional (Off f) = true

-- it is a product under a condition
abbrev pub is_conditional_product : Macro → declared.Context → Bool
is_conditional_product (Add d s) c = false
is_conditional_product (Sub d s) c = false
is_conditional_product (Less x y) c = false
is_conditional_product (Equal x y) c = false
is_conditional_product (Move d s) c = false
is_conditional_product (Select d s f) c = false
is_conditional_product (Const d v) c = false
is_conditional_product (Shift d) c = false
is_conditional_product (Mul d x y) c = is_conditional c
is_conditional_product (Set f) c = false
is_conditional_product (Clear f) c = false

-- why a macro is refused under a context: the first cause, in this order
abbrev pub first_fault : Macro → declared.Context → Option MacroFault
first_fault m c =
    if overlaps m then Some fault.Overlap
    else (if misfits m then Some fault.Lengths
    else (if writes_condition m c || names_fixed m then Some fault.Scratch
    else (if is_conditional_product m c then Some fault.Context
    else None)))

-- the same cause as the kind of a faulty line
abbrev pub kind_of_macro_fault : MacroFault → AsmKind
kind_of_macro_fault fault.Overlap = kind.Overlap
kind_of_macro_fault fault.Lengths = kind.Lengths
kind_of_macro_fault fault.Scratch = kind.Scratch
kind_of_macro_fault fault.Context = kind.Context
kind_of_macro_fault fault.Memory = kind.Memory

-- a fault that a macro is refused with: its first cause, or where it has none the want of memory
abbrev pub IsRefusal : Macro → declared.Context → Type 0 → MacroFault → Type 0
IsRefusal m c wanting fault.Overlap = first_fault m c ≡ Some fault.Overlap
IsRefusal m c wanting fault.Lengths = first_fault m c ≡ Some fault.Lengths
IsRefusal m c wanting fault.Scratch = first_fault m c ≡ Some fault.Scratch
IsRefusal m c wanting fault.Context = first_fault m c ≡ Some fault.Context
IsRefusal m c wanting fault.Memory = (first_fault m c ≡ None) × wanting
