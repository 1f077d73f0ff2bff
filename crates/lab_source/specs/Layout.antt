-- The constants of a source, and the order in which its lines are carried out: ours.
use Rattle.std.specs.Prelude.{ℕ, ◌+◌, ◌||◌, not, nat_lt, if◌then◌else◌, Option, Some, None, Result, Ok, Err, List}
use Rattle.std.specs.Prelude.{zero, suc, [], ◌∷◌, ◌++◌, length, take, drop, codes, bytes_eq, is_ok, is_some}
use Rattle.std.specs.Option.{ok_or}
use Rattle.cm_bits.specs.Text.{words_of, number_of}
use Rattle.cm_language.specs.declared.fault.AsmKind.{AsmKind}
use Rattle.cm_language.specs.declared.fault.AsmKind.TheVariants as asm
use Rattle.cm_language.specs.Names.{is_name}
use Rattle.cm_language.specs.Lines.{number_below, direction_of}
use Rattle.lab_source.specs.declared.fault.SourceKind.{SourceKind}
use Rattle.lab_source.specs.declared.fault.SourceKind.TheVariants.{Asm, NoRepeat, NoEnd, TooMany}
use Rattle.lab_source.specs.declared.fault.SourceFault.{SourceFault}
use Rattle.lab_source.specs.declared.layout.Opened.{Opened}

infixl 10 ◌>>=◌
-- what comes after, unless there was a fault before
abbrev pub ◌>>=◌ : {A B : Type 0} → Result A SourceKind → (A → Result B SourceKind) → Result B SourceKind
(Ok x) >>= f = f x
(Err kind) >>= f = Err kind

-- the same fault as one of a source
abbrev pub of_source : {A : Type 0} → Result A AsmKind → Result A SourceKind
of_source (Ok x) = Ok x
of_source (Err kind) = Err (Asm kind)

-- what comes after a line, the one at this place, unless it has a fault
abbrev pub unless_faulty_at : {A B : Type 0} → ℕ → Result A SourceKind → (A → Result B SourceFault) → Result B SourceFault
unless_faulty_at place (Ok x) after = after x
unless_faulty_at place (Err kind) after = Err (record { line = place + 1; kind = kind })

-- ---- constants

-- a number and the name that a source gave it
pub record NamedNumber : Type 0 where
  pub name : List ℕ
  pub number : ℕ

-- a number under a name
abbrev pub numbered : List ℕ → ℕ → NamedNumber
numbered name number = record { name = name; number = number }

-- the number of a constant's name
abbrev pub number_named : List NamedNumber → List ℕ → Option ℕ
number_named [] name = None
number_named (defined ∷ constants) name =
    if bytes_eq name defined.name then Some defined.number else number_named constants name

-- the first, or else the second
abbrev pub first_of_both : Option ℕ → Option ℕ → Option ℕ
first_of_both None other = other
first_of_both (Some n) other = Some n

-- the number that a word says: a constant's, or its own
abbrev pub number_said : List NamedNumber → List ℕ → Option ℕ
number_said constants word = first_of_both (number_named constants word) (number_of word)

-- a name that is not taken, and no direction
abbrev pub new_constant_name : List NamedNumber → List ℕ → Result (List ℕ) AsmKind
new_constant_name constants word =
    if not (is_name word) || is_ok (direction_of word) then Err asm.Name
    else (if is_some (number_named constants word) then Err asm.Twice else Ok word)

-- ---- order

-- the most lines that are carried out
abbrev pub MOST_LINES : ℕ
MOST_LINES = 65535

-- what the lines of a source so far have laid out
pub record Layout : Type 0 where
  pub constants : List NamedNumber
  -- each `repeat` whose `end` has not come, the innermost first
  pub opened : List Opened
  -- the places of lines in the order in which they are carried out
  pub order : List ℕ

-- before its first line
abbrev pub nothing_laid : Layout
nothing_laid = record { constants = []; opened = []; order = [] }

-- a list so many times
abbrev pub times : ℕ → List ℕ → List ℕ
times zero places = []
times (suc count) places = places ++ times count places

-- unless more lines would be carried out than can be
abbrev pub within_lines : Layout → Result Layout SourceKind
within_lines laid = if nat_lt MOST_LINES (length laid.order) then Err TooMany else Ok laid

-- `repeat` at a place, by its operands
abbrev pub after_repeat : Layout → ℕ → List (List ℕ) → Result Layout SourceKind
after_repeat laid place (count ∷ []) =
    of_source (number_below 65536 (number_said laid.constants count)) >>= λ count'.
    Ok (record {
      constants = laid.constants;
      opened = record { line = place + 1; count = count'; start = length laid.order } ∷ laid.opened;
      order = laid.order;
    })
after_repeat laid place _ = Err (Asm asm.Operands)

-- the lines since the innermost `repeat` come as often as it says
abbrev pub repeat_closed : Layout → List Opened → Result Layout SourceKind
repeat_closed laid [] = Err NoRepeat
repeat_closed laid (innermost ∷ opened) =
    within_lines (record {
      constants = laid.constants;
      opened = opened;
      order = take innermost.start laid.order ++ times innermost.count (drop innermost.start laid.order);
    })

-- `end`, by its operands
abbrev pub after_end : Layout → List (List ℕ) → Result Layout SourceKind
after_end laid [] = repeat_closed laid laid.opened
after_end laid (word ∷ words) = Err (Asm asm.Operands)

-- `constant`, by its operands
abbrev pub after_constant : Layout → List (List ℕ) → Result Layout SourceKind
after_constant laid (name ∷ value ∷ []) =
    of_source (new_constant_name laid.constants name) >>= λ name'.
    of_source (ok_or (number_said laid.constants value) asm.Number) >>= λ number.
    Ok (record {
      constants = laid.constants ++ numbered name' number ∷ [];
      opened = laid.opened;
      order = laid.order;
    })
after_constant laid _ = Err (Asm asm.Operands)

-- any other line is carried out where it stands
abbrev pub after_other : Layout → ℕ → Result Layout SourceKind
after_other laid place =
    within_lines (record { constants = laid.constants; opened = laid.opened; order = laid.order ++ place ∷ [] })

-- one line more, at this place, by its words
abbrev pub layout_after_words : Layout → ℕ → List (List ℕ) → Result Layout SourceKind
layout_after_words laid place [] = Ok laid
layout_after_words laid place (word ∷ operands) =
    if bytes_eq word (codes "repeat") then after_repeat laid place operands
    else (if bytes_eq word (codes "end") then after_end laid operands
    else (if bytes_eq word (codes "constant") then after_constant laid operands
    else after_other laid place))

-- after these lines, the first of them at this place
unfoldable pub layout_after_lines : Layout → ℕ → List (List ℕ) → Result Layout SourceFault
layout_after_lines laid place [] = Ok laid
layout_after_lines laid place (line ∷ lines) =
    unless_faulty_at place (layout_after_words laid place (words_of line)) (λ next. layout_after_lines next (place + 1) lines)

-- at the end no `repeat` is open
abbrev pub unless_open : Layout → List Opened → Result Layout SourceFault
unless_open laid [] = Ok laid
unless_open laid (innermost ∷ opened) = Err (record { line = innermost.line; kind = NoEnd })

-- what has been laid out, if every `repeat` has its `end`
abbrev pub all_closed : Result Layout SourceFault → Result Layout SourceFault
all_closed (Ok laid) = unless_open laid laid.opened
all_closed (Err fault) = Err fault

-- what the lines of a source lay out
abbrev pub layout_of : List (List ℕ) → Result Layout SourceFault
layout_of lines = all_closed (layout_after_lines nothing_laid 0 lines)
