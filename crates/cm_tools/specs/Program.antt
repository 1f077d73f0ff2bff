-- A program text of one chip, line by line. Ours.
use Rattle.std.specs.Prelude.{◌≡◌, ℕ, ◌+◌, ◌-◌, take, Option, Some, None, Result, Ok, Err, List, [], ◌∷◌, ◌++◌, codes}
use Rattle.std.specs.Prelude.{bytes_eq, if◌then◌else◌}
use Rattle.cm_bits.specs.Text.{lines_of, words_of}
use Rattle.cm_model.specs.declared.act.Nano.{Nano}
use Rattle.cm_language.specs.declared.fault.AsmKind.{AsmKind}
use Rattle.cm_language.specs.declared.fault.AsmKind.TheVariants.{Word}
use Rattle.cm_language.specs.declared.fault.AsmFault.{AsmFault}
use Rattle.cm_language.specs.Lines.{◌>>=◌, nano_of}
use Rattle.cm_language.specs.Program.{MatchKind}

-- the instruction of the words of a line, none where there are no words: only `nano` may be the first
abbrev pub instruction_of : List (List ℕ) → Result (Option Nano) AsmKind
instruction_of [] = Ok None
instruction_of (word ∷ operands) =
    if bytes_eq word (codes "nano") then (nano_of operands >>= λ nano. Ok (Some nano)) else Err Word

-- the instruction of a line before those of the lines after it
abbrev pub with_line : ℕ → Result (Option Nano) AsmKind → Result (List Nano) AsmFault → Result (List Nano) AsmFault
with_line number (Err kind) after = Err (record { line = number; kind = kind })
with_line number (Ok None) after = after
with_line number (Ok (Some nano)) (Ok nanos) = Ok (nano ∷ nanos)
with_line number (Ok (Some nano)) (Err fault) = Err fault

-- the instructions of lines that are numbered from here on, or the first line that is faulty
abbrev pub nanos_of_lines : ℕ → List (List ℕ) → Result (List Nano) AsmFault
nanos_of_lines number [] = Ok []
nanos_of_lines number (line ∷ lines) =
    with_line number (instruction_of (words_of line)) (nanos_of_lines (number + 1) lines)

-- the instructions of a text, or its first faulty line, counted from 1
unfoldable pub nanos_of : List ℕ → Result (List Nano) AsmFault
nanos_of text = nanos_of_lines 1 (lines_of text)

-- the lines of a text up to this one are accepted, and this one has an instruction
pub record IsAcceptedThrough (text : List ℕ) (line : ℕ) : Type 0 where
  pub nanos : List Nano
  pub nano : Nano
  pub before : nanos_of_lines 1 (take (line - 1) (lines_of text)) ≡ Ok nanos
  pub here : nanos_of_lines 1 (take line (lines_of text)) ≡ Ok (nanos ++ nano ∷ [])

-- a fault that a text is refused with: its first faulty line, or one whose instruction could not be kept
abbrev pub IsChipFaultOf : List ℕ → AsmFault → Type 0
IsChipFaultOf text fault = MatchKind fault.kind (IsAcceptedThrough text fault.line) (nanos_of text ≡ Err fault)
