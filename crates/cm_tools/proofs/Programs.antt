-- Texts of one chip are programs.
use Rattle.std.proofs.Common.{◌≡◌, ℕ, ◌+◌, ◌*◌, ◌≤◌, ◌<◌, Bool, true, false, cond, Option, Some, None, Result, Ok, Err}
use Rattle.std.proofs.Common.{List, [], ◌∷◌, ◌++◌, length, map, refl}
use Rattle.std.proofs.Common.{sym, ap, subst, ◌∙◌, arith, append_assoc, append-nil}
use Rattle.std.specs.Prelude.{if◌then◌else◌, codes, bytes_eq, nat_lt}
use Rattle.std.specs.List.{filter, before_first, position_or_len, slice_split, onto_first}
use Rattle.std.proofs.lemmas.List.{length-take, length-append}
use Rattle.std.proofs.lemmas.Bool.Decides.{nat_tests}
use Rattle.std.proofs.lemmas.Slice.Eq.{bytes_eq-Decides}
use Rattle.cm_bits.specs.Text.{lines_of, words_of, is_line_end}
use Rattle.cm_bits.specs.Text.{is_blank, is_comment_start, has_bytes, without_empty_last}
use Rattle.cm_model.specs.declared.act.Nano.{Nano}
use Rattle.cm_model.specs.declared.act.Act.{Act}
use Rattle.cm_model.specs.declared.act.Act.TheVariants as act
use Rattle.cm_language.specs.declared.macros.Context.TheVariants.{Always}
use Rattle.cm_language.specs.declared.fault.AsmKind.{AsmKind}
use Rattle.cm_language.specs.declared.fault.AsmKind.TheVariants as kind
use Rattle.cm_language.specs.declared.fault.AsmFault.{AsmFault}
use Rattle.cm_language.specs.Lines.{◌>>=◌, nano_of}
use Rattle.cm_language.specs.Program.{MOST_ACTS, Reading, within_length}
use Rattle.cm_language.specs.Program.{with_acts, reading_after_words, unless_faulty, reading_after_lines}
use Rattle.cm_language.specs.Program.{after_statement}
use Rattle.cm_language.specs.declared.statement.Statement.TheVariants as statement
use Rattle.cm_tools.specs.Session.{CHIP_LIMIT}
use Rattle.cm_language.specs.Program.{program_read, program_of}
use Rattle.cm_tools.specs.Program.{instruction_of, with_line, nanos_of_lines, nanos_of}
use Rattle.cm_tools.specs.Laws.{ChipTextsArePrograms, ChipFaultsAreFaults}

-- ---- how many bytes an instruction takes

-- the bytes of parts, and one between each and the next
abbrev room : List (List ℕ) → ℕ
room [] = 0
room (part ∷ parts) = length part + 1 + room parts

room-onto_first : (byte : ℕ) (parts : List (List ℕ)) → 0 < room parts → room (onto_first byte parts) ≡ room parts + 1
room-onto_first byte [] some = absurd (omega (arith, some))
room-onto_first byte (part ∷ parts) some = omega arith

room-cond : (b : Bool) (byte : ℕ) (bytes : List ℕ) (parts : List (List ℕ)) → room parts ≡ length bytes + 1
    → room (cond b ([] ∷ parts) (onto_first byte parts)) ≡ length (byte ∷ bytes) + 1
room-cond true byte bytes parts is = omega (arith, is)
room-cond false byte bytes parts is = omega (arith, is, room-onto_first byte parts (omega (arith, is)))

-- cutting a text loses no byte
room-slice_split : (p : ℕ → Bool) (bytes : List ℕ) → room (slice_split p bytes) ≡ length bytes + 1
room-slice_split p [] = refl
room-slice_split p (byte ∷ bytes) = room-cond (p byte) byte bytes (slice_split p bytes) (room-slice_split p bytes)

room-without_empty_last : (parts : List (List ℕ)) → room (without_empty_last parts) ≤ room parts
room-without_empty_last [] = omega arith
room-without_empty_last ([] ∷ []) = omega arith
room-without_empty_last ((byte ∷ bytes) ∷ []) = omega arith
room-without_empty_last (part ∷ next ∷ parts) = omega (arith, room-without_empty_last (next ∷ parts))

room-lines_of : (text : List ℕ) → room (lines_of text) ≤ length text + 1
room-lines_of text =
    omega (arith, room-without_empty_last (slice_split is_line_end text), room-slice_split is_line_end text)

-- a word takes a byte, and one before the next
room-words : (parts : List (List ℕ)) → 2 * length (filter has_bytes parts) ≤ room parts
room-words [] = omega arith
room-words ([] ∷ parts) = omega (arith, room-words parts)
room-words ((byte ∷ bytes) ∷ parts) = omega (arith, room-words parts)

room-words_of : (line : List ℕ) → 2 * length (words_of line) ≤ length line + 1
room-words_of line =
    omega (
      arith,
      room-words (slice_split is_blank (before_first is_comment_start line)),
      room-slice_split is_blank (before_first is_comment_start line),
      length-take (position_or_len is_comment_start line) line,
    )

nine_operands : (words : List (List ℕ)) (nano : Nano) → nano_of words ≡ Ok nano → 9 ≤ length words
nine_operands [] nano e = absurd cc
nine_operands (a ∷ []) nano e = absurd cc
nine_operands (a ∷ b ∷ []) nano e = absurd cc
nine_operands (a ∷ b ∷ c ∷ []) nano e = absurd cc
nine_operands (a ∷ b ∷ c ∷ d ∷ []) nano e = absurd cc
nine_operands (a ∷ b ∷ c ∷ d ∷ f ∷ []) nano e = absurd cc
nine_operands (a ∷ b ∷ c ∷ d ∷ f ∷ g ∷ []) nano e = absurd cc
nine_operands (a ∷ b ∷ c ∷ d ∷ f ∷ g ∷ h ∷ []) nano e = absurd cc
nine_operands (a ∷ b ∷ c ∷ d ∷ f ∷ g ∷ h ∷ i ∷ []) nano e = absurd cc
nine_operands (a ∷ b ∷ c ∷ d ∷ f ∷ g ∷ h ∷ i ∷ j ∷ words) nano e = omega arith

-- ---- one line

-- what a line of one chip's text says to the assembler
abbrev IsSame : Reading → List (List ℕ) → Result (Option Nano) AsmKind → Type 0
IsSame r words (Ok None) = reading_after_words r words ≡ Ok r
IsSame r words (Ok (Some nano)) = (reading_after_words r words ≡ with_acts r (act.Nano nano ∷ [])) × (10 ≤ length words)
IsSame r words (Err fault) = ¬ (fault ≡ kind.Word) → reading_after_words r words ≡ Err fault

with_nano : (r : Reading) (operands : List (List ℕ)) (read : Result Nano AsmKind) → nano_of operands ≡ read
    → reading_after_words r (codes "nano" ∷ operands) ≡ (read >>= λ nano. with_acts r (act.Nano nano ∷ []))
with_nano r operands (Ok nano) e =
    ap (λ (q : Result Nano AsmKind). (q >>= λ nano. Ok (statement.Act (act.Nano nano))) >>= after_statement r) e
with_nano r operands (Err fault) e =
    ap (λ (q : Result Nano AsmKind). (q >>= λ nano. Ok (statement.Act (act.Nano nano))) >>= after_statement r) e

same_operands : (r : Reading) (operands : List (List ℕ)) (read : Result Nano AsmKind) → nano_of operands ≡ read
    → IsSame r (codes "nano" ∷ operands) (read >>= λ nano. Ok (Some nano))
same_operands r operands (Ok nano) e =
    (with_nano r operands (Ok nano) e, omega (arith, nine_operands operands nano e))
same_operands r operands (Err fault) e = λ other. with_nano r operands (Err fault) e

same_line : (r : Reading) (words : List (List ℕ)) → IsSame r words (instruction_of words)
same_line r [] = refl
same_line r (word ∷ operands) = by (bytes_eq word (codes "nano")) refl where
  by : (b : Bool) → bytes_eq word (codes "nano") ≡ b
      → IsSame r (word ∷ operands) (if b then (nano_of operands >>= λ nano. Ok (Some nano)) else Err kind.Word)
  by true e =
      let is : word ≡ codes "nano" = (bytes_eq-Decides word (codes "nano")).0 e in
      subst (λ (w : List ℕ). IsSame r (w ∷ operands) (nano_of operands >>= λ nano. Ok (Some nano))) (sym is)
      (same_operands r operands (nano_of operands) refl)
  by false e = λ other. absurd (other refl)

-- ---- all lines

-- what is read of instructions alone
abbrev reading : List Act → Reading
reading acts = record { fields = []; context = Always; acts = acts }

within_length-few : (r : Reading) → length r.acts ≤ MOST_ACTS → within_length r ≡ Ok r
within_length-few r few =
    let test : nat_lt MOST_ACTS (length r.acts) ≡ false = grind (arith, nat_tests) in
    ap (λ (b : Bool). if b then Err kind.TooLong else Ok r) test

-- what the assembler reads after these acts, where a session of one chip reads the lines so
abbrev IsRead : ℕ → List Act → List (List ℕ) → Result (List Nano) AsmFault → Type 0
IsRead n acts lines (Ok nanos) = reading_after_lines (reading acts) n lines ≡ Ok (reading (acts ++ map act.Nano nanos))
IsRead n acts lines (Err fault) = ¬ (fault.kind ≡ kind.Word) → reading_after_lines (reading acts) n lines ≡ Err fault

-- a blank line more
read_blank : (n : ℕ) (acts : List Act) (line : List ℕ) (lines : List (List ℕ)) (after : Result (List Nano) AsmFault)
    → reading_after_lines (reading acts) n (line ∷ lines) ≡ reading_after_lines (reading acts) (n + 1) lines
    → IsRead (n + 1) acts lines after → IsRead n acts (line ∷ lines) after
read_blank n acts line lines (Ok nanos) e h = e ∙ h
read_blank n acts line lines (Err fault) e h = λ other. e ∙ h other

-- an instruction more
read_instruction : (n : ℕ) (acts : List Act) (nano : Nano) (line : List ℕ) (lines : List (List ℕ))
    (after : Result (List Nano) AsmFault)
    → reading_after_lines (reading acts) n (line ∷ lines) ≡ reading_after_lines (reading (acts ++ act.Nano nano ∷ [])) (n + 1) lines
    → IsRead (n + 1) (acts ++ act.Nano nano ∷ []) lines after
    → IsRead n acts (line ∷ lines) (with_line n (Ok (Some nano)) after)
read_instruction n acts nano line lines (Ok nanos) e h =
    e ∙ h ∙ ap (λ (all : List Act). Ok (reading all)) (append_assoc acts (act.Nano nano ∷ []) (map act.Nano nanos))
read_instruction n acts nano line lines (Err fault) e h = λ other. e ∙ h other

-- the acts so far and the lines that are left are no more than a text of a session has room for
abbrev Fits : List Act → List (List ℕ) → Type 0
Fits acts lines = 20 * length acts + room lines ≤ 1048577

read_line : (n : ℕ) (acts : List Act) (line : List ℕ) (lines : List (List ℕ)) → Fits acts (line ∷ lines)
    → ((more : List Act) → Fits more lines → IsRead (n + 1) more lines (nanos_of_lines (n + 1) lines))
    → (first : Result (Option Nano) AsmKind) → IsSame (reading acts) (words_of line) first
    → IsRead n acts (line ∷ lines) (with_line n first (nanos_of_lines (n + 1) lines))
read_line n acts line lines fits rest (Ok None) same =
    read_blank n acts line lines (nanos_of_lines (n + 1) lines)
    (ap (λ (q : Result Reading AsmKind). unless_faulty n q (λ r. reading_after_lines r (n + 1) lines)) same)
    (rest acts (omega (arith, fits)))
read_line n acts line lines fits rest (Ok (Some nano)) same =
    let longer : length (acts ++ act.Nano nano ∷ []) ≡ length acts + 1 = length-append acts (act.Nano nano ∷ []) in
    let fits' : Fits (acts ++ act.Nano nano ∷ []) lines = omega (arith, fits, longer, same.1, room-words_of line) in
    let few : length (acts ++ act.Nano nano ∷ []) ≤ MOST_ACTS = omega (arith, fits') in
    let read : reading_after_words (reading acts) (words_of line) ≡ Ok (reading (acts ++ act.Nano nano ∷ [])) =
    same.0 ∙ within_length-few (reading (acts ++ act.Nano nano ∷ [])) few in
    read_instruction n acts nano line lines (nanos_of_lines (n + 1) lines)
    (ap (λ (q : Result Reading AsmKind). unless_faulty n q (λ r. reading_after_lines r (n + 1) lines)) read)
    (rest (acts ++ act.Nano nano ∷ []) fits')
read_line n acts line lines fits rest (Err fault) same =
    λ other. ap (λ (q : Result Reading AsmKind). unless_faulty n q (λ r. reading_after_lines r (n + 1) lines)) (same other)

read_lines : (n : ℕ) (acts : List Act) (lines : List (List ℕ)) → Fits acts lines
    → IsRead n acts lines (nanos_of_lines n lines)
read_lines n acts [] fits = ap (λ (all : List Act). Ok (reading all)) (sym (append-nil acts))
read_lines n acts (line ∷ lines) fits =
    read_line n acts line lines fits (λ more fits'. read_lines (n + 1) more lines fits')
    (instruction_of (words_of line)) (same_line (reading acts) (words_of line))

read_text : (text : List ℕ) → length text ≤ CHIP_LIMIT
    → IsRead 1 [] (lines_of text) (nanos_of_lines 1 (lines_of text))
read_text text within = read_lines 1 [] (lines_of text) (omega (arith, within, room-lines_of text))

pub chip_texts_are_programs : ChipTextsArePrograms
unfolding program_of nanos_of
chip_texts_are_programs text nanos within e =
    ap program_read (subst (IsRead 1 [] (lines_of text)) e (read_text text within))

pub chip_faults_are_faults : ChipFaultsAreFaults
unfolding program_of nanos_of
chip_faults_are_faults text fault within e other =
    ap program_read (subst (IsRead 1 [] (lines_of text)) e (read_text text within) other)
