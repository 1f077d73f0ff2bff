-- A program text, line by line: ours.
use Rattle.std.specs.Prelude.{◌≡◌, ℕ, ◌+◌, ◌-◌, ◌<◌, ◌≤◌, nat_lt, if◌then◌else◌, Option, Some, None, Result, Ok, Err}
use Rattle.std.specs.Prelude.{List, [], ◌∷◌, ◌++◌, length, take, get_or, codes, bytes_eq}
use Rattle.std.specs.Option.{ok_or}
use Rattle.cm_bits.specs.Text.{lines_of, words_of}
use Rattle.cm_model.specs.declared.act.Act.{Act}
use Rattle.cm_language.specs.declared.macros.Macro.{Macro}
use Rattle.cm_language.specs.declared.macros.Context.{Context}
use Rattle.cm_language.specs.declared.macros.Context.TheVariants.{Always}
use Rattle.cm_language.specs.declared.statement.Statement.{Statement}
use Rattle.cm_language.specs.declared.statement.Statement.TheVariants as statement
use Rattle.cm_language.specs.declared.fault.MacroFault.{MacroFault}
use Rattle.cm_language.specs.declared.fault.AsmKind.{AsmKind}
use Rattle.cm_language.specs.declared.fault.AsmKind.TheVariants as kind
use Rattle.cm_language.specs.declared.fault.AsmFault.{AsmFault}
use Rattle.cm_language.specs.Acts.{acts_of}
use Rattle.cm_language.specs.Faults.{first_fault, kind_of_macro_fault}
use Rattle.cm_language.specs.Names.{NamedField}
use Rattle.cm_language.specs.Lines.{◌>>=◌, verb_of, statement_of, definition_of}

-- the most acts of a program
abbrev pub MOST_ACTS : ℕ
MOST_ACTS = 65535

-- what a text has said so far
pub record Reading : Type 0 where
  -- in order of definition
  pub fields : List NamedField
  -- of the macros that follow
  pub context : Context
  pub acts : List Act

-- before its first line
abbrev pub nothing_read : Reading
nothing_read = record { fields = []; context = Always; acts = [] }

-- what was read, unless it has more acts than a program can have
abbrev pub within_length : Reading → Result Reading AsmKind
within_length r = if nat_lt MOST_ACTS (length r.acts) then Err kind.TooLong else Ok r

-- these acts are the next ones
abbrev pub with_acts : Reading → List Act → Result Reading AsmKind
with_acts r acts = within_length (record { fields = r.fields; context = r.context; acts = r.acts ++ acts })

-- the acts of a macro are the next ones, unless it is refused
abbrev pub with_macro : Reading → Macro → Option MacroFault → Result Reading AsmKind
with_macro r m (Some fault) = Err (kind_of_macro_fault fault)
with_macro r m None = with_acts r (acts_of m r.context)

-- one statement more
abbrev pub after_statement : Reading → Statement → Result Reading AsmKind
after_statement r (statement.Context context) = Ok (record { fields = r.fields; context = context; acts = r.acts })
after_statement r (statement.Macro m) = with_macro r m (first_fault m r.context)
after_statement r (statement.Act a) = with_acts r (a ∷ [])

-- a definition more, by the words after `field`
abbrev pub after_definition : Reading → List (List ℕ) → Result Reading AsmKind
after_definition r operands =
    definition_of r.fields operands
    >>= λ defined. Ok (record { fields = r.fields ++ defined ∷ []; context = r.context; acts = r.acts })

-- one line more, by its words
abbrev pub reading_after_words : Reading → List (List ℕ) → Result Reading AsmKind
reading_after_words r [] = Ok r
reading_after_words r (word ∷ operands) =
    if bytes_eq word (codes "field")
    then after_definition r operands
    else (ok_or (verb_of word) kind.Word >>= λ verb. statement_of r.fields verb operands >>= after_statement r)

-- what comes after a line, unless it has a fault
abbrev pub unless_faulty : {X : Type 0} → ℕ → Result Reading AsmKind → (Reading → Result X AsmFault) → Result X AsmFault
unless_faulty number (Ok r) after = after r
unless_faulty number (Err kind) after = Err (record { line = number; kind = kind })

-- what is read when these lines, numbered from here on, were read too, or the first that is faulty
abbrev pub reading_after_lines : Reading → ℕ → List (List ℕ) → Result Reading AsmFault
reading_after_lines r number [] = Ok r
reading_after_lines r number (line ∷ lines) =
    unless_faulty number (reading_after_words r (words_of line)) (λ r'. reading_after_lines r' (number + 1) lines)

-- what a program is: its fields in order of definition, and its acts
pub record ProgramText : Type 0 where
  pub fields : List NamedField
  pub acts : List Act

-- the program that was read
abbrev pub program_read : Result Reading AsmFault → Result ProgramText AsmFault
program_read (Ok r) = Ok (record { fields = r.fields; acts = r.acts })
program_read (Err fault) = Err fault

-- the program of a text, or its first faulty line, counted from 1
unfoldable pub program_of : List ℕ → Result ProgramText AsmFault
program_of text = program_read (reading_after_lines nothing_read 1 (lines_of text))

-- how many definitions and acts have been read
abbrev pub parts : Reading → ℕ
parts r = length r.fields + length r.acts

-- memory may run out at a line that is accepted and adds a definition or acts: it never takes the place of a fault
abbrev pub MayLackMemory : Reading → Result Reading AsmKind → Type 0
MayLackMemory before (Ok after) = parts before < parts after
MayLackMemory before (Err kind) = ⊥

-- memory ran out at this line: it is one of the text's, the lines before it are accepted, and so is it itself, which
-- adds to what they say
pub record IsGrownFor (text : List ℕ) (line : ℕ) : Type 0 where
  pub first : 1 ≤ line
  pub within : line ≤ length (lines_of text)
  pub read : Reading
  pub before : reading_after_lines nothing_read 1 (take (line - 1) (lines_of text)) ≡ Ok read
  pub here : MayLackMemory read (reading_after_words read (words_of (get_or (lines_of text) (line - 1) [])))

-- what a kind of fault says: want of memory the first, the others the second
abbrev pub MatchKind : AsmKind → Type 0 → Type 0 → Type 0
MatchKind kind.Memory wanting faulty = wanting
MatchKind kind.Width wanting faulty = faulty
MatchKind kind.Range wanting faulty = faulty
MatchKind kind.Overlap wanting faulty = faulty
MatchKind kind.Lengths wanting faulty = faulty
MatchKind kind.Scratch wanting faulty = faulty
MatchKind kind.Context wanting faulty = faulty
MatchKind kind.Word wanting faulty = faulty
MatchKind kind.Operands wanting faulty = faulty
MatchKind kind.Number wanting faulty = faulty
MatchKind kind.Name wanting faulty = faulty
MatchKind kind.Twice wanting faulty = faulty
MatchKind kind.TooLong wanting faulty = faulty

-- a line's own fault is any but want of memory
abbrev pub IsOwnFault : AsmKind → Type 0
IsOwnFault kind = MatchKind kind ⊥ (Unit {0})

-- a fault that a line is refused with: its own, or want of memory
abbrev pub IsLineFault : Reading → Result Reading AsmKind → AsmKind → Type 0
IsLineFault before read kind = MatchKind kind (MayLackMemory before read) (read ≡ Err kind)

-- a fault that a text is refused with: its first faulty line, or where memory ran out
abbrev pub IsFaultOf : List ℕ → AsmFault → Type 0
IsFaultOf text fault = MatchKind fault.kind (IsGrownFor text fault.line) (program_of text ≡ Err fault)
