-- Reading a program line by line.
use Rattle.std.proofs.Common.{◌≡◌, ℕ, ◌+◌, ◌-◌, ◌≤◌, suc, take, drop, drop-drop, take-add, length-drop, append-nil}
use Rattle.std.proofs.Common.{Option, Some, None, Result, Ok, Err, List, [], ◌∷◌, ◌++◌, length, refl, sym, ap, ◌∙◌}
use Rattle.std.proofs.Common.{arith, append_assoc}
use Rattle.std.specs.List.{slice_split}
use Rattle.std.proofs.lemmas.List.Splits.{length-slice_split}
use Rattle.std.proofs.lemmas.List.Sums.{count_by-le-length}
use Rattle.cm_bits.specs.Text.{lines_of, is_line_end, without_empty_last, words_of}
use Rattle.cm_model.specs.declared.act.Nano.{Nano}
use Rattle.cm_language.specs.declared.fault.AsmKind.{AsmKind}
use Rattle.cm_language.specs.declared.fault.AsmKind.TheVariants as kind
use Rattle.cm_language.specs.declared.fault.AsmFault.{AsmFault}
use Rattle.cm_language.specs.Program.{MatchKind, IsOwnFault}
use Rattle.cm_tools.specs.Program.{nanos_of_lines, instruction_of, with_line, nanos_of, IsAcceptedThrough, IsChipFaultOf}

-- instructions before those that were read
abbrev pub prepended : List Nano → Result (List Nano) AsmFault → Result (List Nano) AsmFault
prepended nanos (Ok rest) = Ok (nanos ++ rest)
prepended nanos (Err fault) = Err fault

-- none before what was read
pub none_before : (read : Result (List Nano) AsmFault) → prepended [] read ≡ read
none_before (Ok rest) = refl
none_before (Err fault) = refl

few_parts : (parts : List (List ℕ)) → length (without_empty_last parts) ≤ length parts
few_parts [] = omega arith
few_parts ([] ∷ []) = omega arith
few_parts ((byte ∷ bytes) ∷ []) = omega arith
few_parts (part ∷ next ∷ parts) = omega (arith, few_parts (next ∷ parts))

-- a text has at most one line more than bytes
pub few_lines : (text : List ℕ) → length (lines_of text) ≤ length text + 1
few_lines text = omega (
  arith,
  few_parts (slice_split is_line_end text),
  length-slice_split is_line_end text,
  count_by-le-length is_line_end text,
)

-- a blank line adds nothing
pub read_blank : (nanos : List Nano) (number : ℕ) (line : List ℕ) (lines : List (List ℕ))
    → instruction_of (words_of line) ≡ Ok None
    → prepended nanos (nanos_of_lines number (line ∷ lines)) ≡ prepended nanos (nanos_of_lines (number + 1) lines)
read_blank nanos number line lines is =
    ap (λ (r : Result (Option Nano) AsmKind). prepended
    nanos (with_line number r (nanos_of_lines (number + 1) lines))) is

nano_first : (nanos : List Nano) (number : ℕ) (nano : Nano) (after : Result (List Nano) AsmFault)
    → prepended nanos (with_line number (Ok (Some nano)) after) ≡ prepended (nanos ++ nano ∷ []) after
nano_first nanos number nano (Ok rest) = ap (λ (xs : List Nano). Ok xs) (sym (append_assoc nanos (nano ∷ []) rest))
nano_first nanos number nano (Err fault) = refl

-- an instruction is one more
pub read_instruction : (nanos : List Nano) (number : ℕ) (line : List ℕ) (lines : List (List ℕ)) (nano : Nano)
    → instruction_of (words_of line) ≡ Ok (Some nano)
    → prepended nanos (nanos_of_lines number (line ∷ lines))
    ≡ prepended (nanos ++ nano ∷ []) (nanos_of_lines (number + 1) lines)
read_instruction nanos number line lines nano is =
    ap (λ (r : Result (Option Nano) AsmKind). prepended
    nanos (with_line number r (nanos_of_lines (number + 1) lines))) is
    ∙ nano_first nanos number nano (nanos_of_lines (number + 1) lines)

-- a faulty line is the fault of the text
pub read_fault : (nanos : List Nano) (number : ℕ) (line : List ℕ) (lines : List (List ℕ)) (kind : AsmKind)
    → instruction_of (words_of line) ≡ Err kind
    → prepended nanos (nanos_of_lines number (line ∷ lines)) ≡ Err (record { line = number; kind = kind })
read_fault nanos number line lines kind is =
    ap (λ (r : Result (Option Nano) AsmKind). prepended
    nanos (with_line number r (nanos_of_lines (number + 1) lines))) is

-- ---- the lines that were read, one more at a time

-- what was read of the first lines, and then of the others
abbrev pub joined : Result (List Nano) AsmFault → Result (List Nano) AsmFault → Result (List Nano) AsmFault
joined (Ok nanos) after = prepended nanos after
joined (Err fault) after = Err fault

line_first : (number : ℕ) (first : Result (Option Nano) AsmKind) (before after : Result (List Nano) AsmFault)
    → with_line number first (joined before after) ≡ joined (with_line number first before) after
line_first number (Err kind) before after = refl
line_first number (Ok None) before after = refl
line_first number (Ok (Some nano)) (Err fault) after = refl
line_first number (Ok (Some nano)) (Ok nanos) (Ok rest) = refl
line_first number (Ok (Some nano)) (Ok nanos) (Err fault) = refl

nanos_of_lines-append : (number : ℕ) (lines more : List (List ℕ))
    → nanos_of_lines number (lines ++ more)
    ≡ joined (nanos_of_lines number lines) (nanos_of_lines (number + length lines) more)
nanos_of_lines-append number [] more =
    ap (λ (n : ℕ). nanos_of_lines n more) (omega arith) ∙ sym (none_before (nanos_of_lines (number + 0) more))
nanos_of_lines-append number (line ∷ lines) more =
    ap (with_line number (instruction_of (words_of line)))
    (nanos_of_lines-append (number + 1) lines more
    ∙ ap (λ (n : ℕ). joined (nanos_of_lines (number + 1) lines) (nanos_of_lines n more)) (omega arith))
    ∙ line_first number (instruction_of (words_of line)) (nanos_of_lines (number + 1) lines)
    (nanos_of_lines (number + suc (length lines)) more)

-- the lines up to the next one, and those after it
pub record IsNext (lines : List (List ℕ)) (i : ℕ) (line : List ℕ) (rest : List (List ℕ)) : Type 0 where
  pub after : rest ≡ drop (i + 1) lines
  pub before : take (i + 1) lines ≡ take i lines ++ line ∷ []
  pub within : i + 1 ≤ length lines

pub next_line : (lines : List (List ℕ)) (i : ℕ) (line : List ℕ) (rest : List (List ℕ)) → line ∷ rest ≡ drop i lines
    → IsNext lines i line rest
next_line lines i line rest is = record {
  after = ap (drop 1) is ∙ drop-drop 1 i lines;
  before = take-add i 1 lines ∙ ap (λ (xs : List (List ℕ)). take i lines ++ take 1 xs) (sym is);
  within = omega (arith, length-drop i lines, ap length is);
}

-- what was read of the lines before, and of a line that is blank
pub read_on_blank : (lines : List (List ℕ)) (line : List ℕ) (nanos : List Nano) → nanos_of_lines 1 lines ≡ Ok nanos
    → instruction_of (words_of line) ≡ Ok None
    → nanos_of_lines 1 (lines ++ line ∷ []) ≡ Ok nanos
read_on_blank lines line nanos before is =
    nanos_of_lines-append 1 lines (line ∷ [])
    ∙ ap (λ (r : Result (List Nano) AsmFault). joined r (nanos_of_lines (1 + length lines) (line ∷ []))) before
    ∙ ap (λ (r : Result (Option Nano) AsmKind). prepended nanos (with_line (1 + length lines) r (Ok []))) is
    ∙ ap (λ (xs : List Nano). Ok xs) (append-nil nanos)

-- and of one that has an instruction
pub read_on_instruction : (lines : List (List ℕ)) (line : List ℕ) (nanos : List Nano) (nano : Nano)
    → nanos_of_lines 1 lines ≡ Ok nanos → instruction_of (words_of line) ≡ Ok (Some nano)
    → nanos_of_lines 1 (lines ++ line ∷ []) ≡ Ok (nanos ++ nano ∷ [])
read_on_instruction lines line nanos nano before is =
    nanos_of_lines-append 1 lines (line ∷ [])
    ∙ ap (λ (r : Result (List Nano) AsmFault). joined r (nanos_of_lines (1 + length lines) (line ∷ []))) before
    ∙ ap (λ (r : Result (Option Nano) AsmKind). prepended nanos (with_line (1 + length lines) r (Ok []))) is

-- a line whose instruction could not be kept
pub accepted_through : (text : List ℕ) (i : ℕ) (nanos : List Nano) (nano : Nano)
    → nanos_of_lines 1 (take i (lines_of text)) ≡ Ok nanos
    → nanos_of_lines 1 (take (i + 1) (lines_of text)) ≡ Ok (nanos ++ nano ∷ []) → IsAcceptedThrough text (i + 1)
accepted_through text i nanos nano before here = record {
  nanos = nanos;
  nano = nano;
  before = ap (λ (n : ℕ). nanos_of_lines 1 (take n (lines_of text))) (let e : i + 1 - 1 ≡ i = omega arith in e)
      ∙ before;
  here = here;
}

-- a line's own fault is told as it is
told_as_it_is : (k : AsmKind) (W P : Type 0) → IsOwnFault k → P → MatchKind k W P
told_as_it_is kind.Memory W P own p = absurd own
told_as_it_is kind.Width W P own p = p
told_as_it_is kind.Range W P own p = p
told_as_it_is kind.Overlap W P own p = p
told_as_it_is kind.Lengths W P own p = p
told_as_it_is kind.Scratch W P own p = p
told_as_it_is kind.Context W P own p = p
told_as_it_is kind.Word W P own p = p
told_as_it_is kind.Operands W P own p = p
told_as_it_is kind.Number W P own p = p
told_as_it_is kind.Name W P own p = p
told_as_it_is kind.Twice W P own p = p
told_as_it_is kind.TooLong W P own p = p

-- a line that is refused is told whatever its fault
pub refused_at : (text : List ℕ) (line : ℕ) (kind : AsmKind) → IsOwnFault kind
    → nanos_of text ≡ Err (record { line = line; kind = kind })
    → IsChipFaultOf text (record { line = line; kind = kind })
refused_at text line kind own read =
    told_as_it_is kind (IsAcceptedThrough text line) (nanos_of text ≡ Err (record { line = line; kind = kind })) own
    read
