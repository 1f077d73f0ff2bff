-- A line of a program text, by its words: ours.
use Rattle.std.specs.Prelude.{ℕ, ◌==◌, Bool, not, nat_lt, if◌then◌else◌, Option, Some, None, Result, Ok, Err, List, []}
use Rattle.std.specs.Prelude.{◌∷◌, codes, bytes_eq}
use Rattle.std.specs.Option.{is_some, ok_or}
use Rattle.cm_bits.specs.Span.{Span}
use Rattle.cm_bits.specs.Field.{field_fault}
use Rattle.cm_bits.specs.Text.{number_of}
use Rattle.cm_bits.specs.declared.field.FieldFault.{FieldFault}
use Rattle.cm_bits.specs.declared.field.FieldFault.TheVariants as field
use Rattle.cm_bits.specs.declared.plane.Dir.{Dir}
use Rattle.cm_bits.specs.declared.plane.Dir.TheVariants.{North, East, West, South}
use Rattle.cm_model.specs.declared.act.Nano.{Nano}
use Rattle.cm_model.specs.declared.act.Act.TheVariants as act
use Rattle.cm_language.specs.declared.macros.Macro.TheVariants as macro
use Rattle.cm_language.specs.declared.macros.Context.TheVariants as context
use Rattle.cm_language.specs.declared.statement.Verb.{Verb}
use Rattle.cm_language.specs.declared.statement.Verb.TheVariants as verb
use Rattle.cm_language.specs.declared.statement.Statement.{Statement}
use Rattle.cm_language.specs.declared.statement.Statement.TheVariants as statement
use Rattle.cm_language.specs.declared.fault.AsmKind.{AsmKind}
use Rattle.cm_language.specs.declared.fault.AsmKind.TheVariants.{Width, Range, Operands, Number, Name, Twice}
use Rattle.cm_language.specs.Names.{NamedField, is_name, field_named}

infixl 10 ◌>>=◌
-- what comes after, unless there was a fault before
abbrev pub ◌>>=◌ : {A B : Type 0} → Result A AsmKind → (A → Result B AsmKind) → Result B AsmKind
(Ok x) >>= f = f x
(Err e) >>= f = Err e

-- ---- one operand

-- a number below a limit: no number, or one too large, is a fault
abbrev pub number_below : ℕ → Option ℕ → Result ℕ AsmKind
number_below limit None = Err Number
number_below limit (Some n) = if nat_lt n limit then Ok n else Err Number

-- the number of a word, below a limit
abbrev pub operand_of : ℕ → List ℕ → Result ℕ AsmKind
operand_of limit word = number_below limit (number_of word)

-- any number that a word writes
abbrev pub number_operand : List ℕ → Result ℕ AsmKind
number_operand word = ok_or (number_of word) Number

-- 0 or 1
abbrev pub sense_operand : List ℕ → Result Bool AsmKind
sense_operand word = operand_of 2 word >>= λ n. Ok (n == 1)

-- n, e, w or s
abbrev pub direction_of : List ℕ → Result Dir AsmKind
direction_of word =
    if bytes_eq word (codes "n") then Ok North
    else (if bytes_eq word (codes "e") then Ok East
    else (if bytes_eq word (codes "w") then Ok West
    else (if bytes_eq word (codes "s") then Ok South
    else Err Operands)))

-- the field of a defined name
abbrev pub field_operand : List NamedField → List ℕ → Result Span AsmKind
field_operand fields word = ok_or (field_named fields word) Name

-- ---- all operands of a line

-- none
abbrev pub no_operand : List (List ℕ) → Result (Unit {0}) AsmKind
no_operand [] = Ok tt
no_operand (word ∷ words) = Err Operands

-- a flag
abbrev pub flag_operand : List (List ℕ) → Result ℕ AsmKind
flag_operand (flag ∷ []) = operand_of 16 flag
flag_operand _ = Err Operands

-- a field
abbrev pub one_field : List NamedField → List (List ℕ) → Result Span AsmKind
one_field fields (d ∷ []) = field_operand fields d
one_field fields _ = Err Operands

-- two fields
abbrev pub two_fields : List NamedField → List (List ℕ) → Result (Span × Span) AsmKind
two_fields fields (d ∷ s ∷ []) = field_operand fields d >>= λ d'. field_operand fields s >>= λ s'. Ok (d', s')
two_fields fields _ = Err Operands

-- the operands of `select`
abbrev pub choice_of : List NamedField → List (List ℕ) → Result Statement AsmKind
choice_of fields (d ∷ s ∷ f ∷ []) =
    field_operand fields d >>= λ d'. field_operand fields s >>= λ s'. operand_of 16 f >>= λ f'.
    Ok (statement.Macro (macro.Select d' s' f'))
choice_of fields _ = Err Operands

-- the operands of `const`
abbrev pub constant_of : List NamedField → List (List ℕ) → Result Statement AsmKind
constant_of fields (d ∷ v ∷ []) =
    field_operand fields d >>= λ d'. number_operand v >>= λ v'. Ok (statement.Macro (macro.Const d' v'))
constant_of fields _ = Err Operands

-- the operands of `mul`
abbrev pub product_of : List NamedField → List (List ℕ) → Result Statement AsmKind
product_of fields (d ∷ x ∷ y ∷ []) =
    field_operand fields d >>= λ d'. field_operand fields x >>= λ x'. field_operand fields y >>= λ y'.
    Ok (statement.Macro (macro.Mul d' x' y'))
product_of fields _ = Err Operands

-- the instruction of nine operands: the first that is faulty, from left to right, names the fault
abbrev pub nano_of_nine : List ℕ → List ℕ → List ℕ → List ℕ → List ℕ → List ℕ → List ℕ → List ℕ → List ℕ
    → Result Nano AsmKind
nano_of_nine a b read write cond sense mem_table flag_table dir =
    operand_of 4096 a >>= λ a'. operand_of 4096 b >>= λ b'.
    operand_of 16 read >>= λ read'. operand_of 16 write >>= λ write'. operand_of 16 cond >>= λ cond'.
    sense_operand sense >>= λ sense'.
    operand_of 256 mem_table >>= λ mem'. operand_of 256 flag_table >>= λ flag'. direction_of dir >>= λ dir'.
    Ok (record {
      a = a';
      b = b';
      read = read';
      write = write';
      cond = cond';
      sense = sense';
      mem_table = mem';
      flag_table = flag';
      dir = dir';
    })

-- the instruction of the words after `nano`
abbrev pub nano_of : List (List ℕ) → Result Nano AsmKind
nano_of (a ∷ b ∷ read ∷ write ∷ cond ∷ sense ∷ mem_table ∷ flag_table ∷ dir ∷ []) =
    nano_of_nine a b read write cond sense mem_table flag_table dir
nano_of _ = Err Operands

-- ---- a line

-- what a first word asks for
abbrev pub verb_of : List ℕ → Option Verb
verb_of word =
    if bytes_eq word (codes "nano") then Some verb.Nano
    else (if bytes_eq word (codes "add") then Some verb.Add
    else (if bytes_eq word (codes "sub") then Some verb.Sub
    else (if bytes_eq word (codes "less") then Some verb.Less
    else (if bytes_eq word (codes "equal") then Some verb.Equal
    else (if bytes_eq word (codes "move") then Some verb.Move
    else (if bytes_eq word (codes "select") then Some verb.Select
    else (if bytes_eq word (codes "const") then Some verb.Const
    else (if bytes_eq word (codes "shift") then Some verb.Shift
    else (if bytes_eq word (codes "mul") then Some verb.Mul
    else (if bytes_eq word (codes "set") then Some verb.Set
    else (if bytes_eq word (codes "clear") then Some verb.Clear
    else (if bytes_eq word (codes "if") then Some verb.If
    else (if bytes_eq word (codes "unless") then Some verb.Unless
    else (if bytes_eq word (codes "always") then Some verb.Always
    else (if bytes_eq word (codes "cycle") then Some verb.Cycle
    else (if bytes_eq word (codes "sense") then Some verb.Sense
    else None))))))))))))))))

-- what a first word and its operands say
abbrev pub statement_of : List NamedField → Verb → List (List ℕ) → Result Statement AsmKind
statement_of fields verb.Nano words = nano_of words >>= λ nano. Ok (statement.Act (act.Nano nano))
statement_of fields verb.Add words = two_fields fields words >>= λ both. Ok (statement.Macro (macro.Add both.0 both.1))
statement_of fields verb.Sub words = two_fields fields words >>= λ both. Ok (statement.Macro (macro.Sub both.0 both.1))
statement_of fields verb.Less words =
    two_fields fields words >>= λ both. Ok (statement.Macro (macro.Less both.0 both.1))
statement_of fields verb.Equal words =
    two_fields fields words >>= λ both. Ok (statement.Macro (macro.Equal both.0 both.1))
statement_of fields verb.Move words =
    two_fields fields words >>= λ both. Ok (statement.Macro (macro.Move both.0 both.1))
statement_of fields verb.Select words = choice_of fields words
statement_of fields verb.Const words = constant_of fields words
statement_of fields verb.Shift words = one_field fields words >>= λ d. Ok (statement.Macro (macro.Shift d))
statement_of fields verb.Mul words = product_of fields words
statement_of fields verb.Set words = flag_operand words >>= λ f. Ok (statement.Macro (macro.Set f))
statement_of fields verb.Clear words = flag_operand words >>= λ f. Ok (statement.Macro (macro.Clear f))
statement_of fields verb.If words = flag_operand words >>= λ f. Ok (statement.Context (context.On f))
statement_of fields verb.Unless words = flag_operand words >>= λ f. Ok (statement.Context (context.Off f))
statement_of fields verb.Always words = no_operand words >>= λ nothing. Ok (statement.Context context.Always)
statement_of fields verb.Cycle words = no_operand words >>= λ nothing. Ok (statement.Act act.Cycle)
statement_of fields verb.Sense words = no_operand words >>= λ nothing. Ok (statement.Act act.Sense)

-- ---- a definition

-- a name that is not taken
abbrev pub new_name : List NamedField → List ℕ → Result (List ℕ) AsmKind
new_name fields word =
    if not (is_name word) then Err Name
    else (if is_some (field_named fields word) then Err Twice else Ok word)

-- a field's fault as the kind of a faulty line
abbrev pub kind_of_field : FieldFault → AsmKind
kind_of_field field.Width = Width
kind_of_field field.Range = Range

-- the field of an address and a length, unless it has a fault
abbrev pub field_unless : ℕ → ℕ → Option FieldFault → Result Span AsmKind
field_unless at len (Some fault) = Err (kind_of_field fault)
field_unless at len None = Ok (record { at = at; len = len })

-- a field of this name, by the words after `field`
abbrev pub definition_of : List NamedField → List (List ℕ) → Result NamedField AsmKind
definition_of fields (name ∷ at ∷ len ∷ []) =
    new_name fields name >>= λ name'. operand_of 65536 at >>= λ at'. operand_of 65536 len >>= λ len'.
    field_unless at' len' (field_fault at' len') >>= λ field'. Ok (record { name = name'; field = field' })
definition_of fields _ = Err Operands
