-- Laws over the definitions, each the contract of a function of its name. Ours.
use Rattle.std.specs.Prelude.{◌≡◌, ℕ, ◌%◌, ◌^◌, ◌<◌, false, None, Ok, List}
use Rattle.cm_bits.specs.Span.{Span, IsField}
use Rattle.cm_bits.specs.Field.{IsIn}
use Rattle.cm_model.specs.Processor.{Processor, memory_bit, flag}
use Rattle.cm_model.specs.Array.{each_chip, chip_at}
use Rattle.cm_model.specs.Chip.{each_processor, processor_at}
use Rattle.cm_model.specs.Machine.{Machine, run_of}
use Rattle.cm_model.specs.Keeping.{IsMachine}
use Rattle.cm_model.specs.Whole.{IsProcessor}
use Rattle.cm_language.specs.declared.macros.Macro.{Macro}
use Rattle.cm_language.specs.declared.macros.Macro.TheVariants.{Add, Sub, Less, Equal, Move, Select, Const, Shift, Mul}
use Rattle.cm_language.specs.declared.macros.Macro.TheVariants.{Set, Clear}
use Rattle.cm_language.specs.declared.macros.Context.{Context}
use Rattle.cm_language.specs.Effect.{selected, value_of, size, with_value, effect}
use Rattle.cm_language.specs.Acts.{acts_of}
use Rattle.cm_language.specs.Faults.{writes, first_fault}
use Rattle.cm_language.specs.Program.{ProgramText, program_of}
use Rattle.cm_language.specs.Listing.{listing, listing_of}
use Rattle.cm_language.specs.Whole.{IsProgram}

-- all fields of a macro are fields
abbrev pub HasFields : Macro → Type 0
HasFields (Add d s) = IsField d × IsField s
HasFields (Sub d s) = IsField d × IsField s
HasFields (Less x y) = IsField x × IsField y
HasFields (Equal x y) = IsField x × IsField y
HasFields (Move d s) = IsField d × IsField s
HasFields (Select d s f) = IsField d × IsField s
HasFields (Const d v) = IsField d
HasFields (Shift d) = IsField d
HasFields (Mul d x y) = IsField d × IsField x × IsField y
HasFields (Set f) = Unit {0}
HasFields (Clear f) = Unit {0}

-- a machine after a macro: every processor at once, from its old bits
unfoldable pub machine_after_macro : ℕ → Macro → Context → Machine → Machine
machine_after_macro n m c machine = record machine {
  chips = each_chip n (λ chip. each_processor (λ p. effect m c (processor_at (chip_at machine.chips chip) p)));
}

-- the acts of a macro that is not refused are its effect, on every machine
abbrev pub MacrosAreRight : Type 0
MacrosAreRight =
    (n cap : ℕ) (m : Macro) (c : Context) (machine : Machine) → IsMachine n cap machine → HasFields m
    → first_fault m c ≡ None → run_of n cap machine (acts_of m c) ≡ machine_after_macro n m c machine

-- a field reads the number that was put into it, cut to its bits
abbrev pub NumbersReadBack : Type 0
NumbersReadBack = (field : Span) (number : ℕ) (p : Processor) → IsField field → IsProcessor p →
    value_of (with_value field number p) field ≡ number % size field

-- the memory bit is one of those that a macro gives a number
abbrev pub Stores : Macro → ℕ → Type 0
Stores (Add d s) address = IsIn d address
Stores (Sub d s) address = IsIn d address
Stores (Less x y) address = ⊥
Stores (Equal x y) address = ⊥
Stores (Move d s) address = IsIn d address
Stores (Select d s f) address = IsIn d address
Stores (Const d v) address = IsIn d address
Stores (Shift d) address = IsIn d address
Stores (Mul d x y) address = IsIn d address
Stores (Set f) address = ⊥
Stores (Clear f) address = ⊥

-- what a macro leaves alone in a processor: all of it where the context does not mean it, else every other bit and flag
pub record IsLeftAlone (m : Macro) (c : Context) (before after : Processor) : Type 0 where
  pub unselected : selected c before ≡ false → after ≡ before
  pub memory : (address : ℕ) → ¬ (Stores m address) → memory_bit after address ≡ memory_bit before address
  pub flags : (f : ℕ) → writes m f ≡ false → flag after f ≡ flag before f

-- the acts of a macro that is not refused leave all else alone, in each processor of every machine
abbrev pub MacrosLeaveTheRest : Type 0
MacrosLeaveTheRest =
    (n cap : ℕ) (m : Macro) (c : Context) (machine : Machine) (chip p : ℕ) → IsMachine n cap machine → HasFields m
    → first_fault m c ≡ None → chip < 2 ^ n → p < 16
    → IsLeftAlone m c (processor_at (chip_at machine.chips chip) p)
    (processor_at (chip_at (run_of n cap machine (acts_of m c)).chips chip) p)

-- the program of every text is made as `IsProgram` says
abbrev pub ProgramsAreWhole : Type 0
ProgramsAreWhole = (text : List ℕ) (program : ProgramText) → program_of text ≡ Ok program → IsProgram program

-- every program that is made so is the program of its listing
abbrev pub ProgramsAreListed : Type 0
ProgramsAreListed = (program : ProgramText) → IsProgram program → program_of (listing program) ≡ Ok program

-- the listing of a text's program is a text of that program: the same names, fields and order, and the same acts
abbrev pub ListingsReadBack : Type 0
ListingsReadBack =
    (text : List ℕ) (program : ProgramText) → program_of text ≡ Ok program → program_of (listing program) ≡ Ok program

-- the listing of a text is a text whose listing it is
abbrev pub ListingsAreTheirOwn : Type 0
ListingsAreTheirOwn = (text listed : List ℕ) → listing_of text ≡ Ok listed → listing_of listed ≡ Ok listed
