-- Laws over the definitions, each the contract of a function of its name. Ours.
use Rattle.std.specs.Prelude.{◌≡◌, ℕ, ◌^◌, ◌||◌, Bool, true, false, if◌then◌else◌, Some, Result, Ok, Err, List, [], ◌∷◌}
use Rattle.std.specs.List.{filter}
use Rattle.cm_bits.specs.Span.{Span}
use Rattle.cm_bits.specs.Text.{words_of}
use Rattle.cm_model.specs.declared.act.Act.{Act}
use Rattle.cm_model.specs.Machine.{Machine, run_of}
use Rattle.cm_model.specs.Keeping.{IsMachine}
use Rattle.cm_array.specs.Acts.{is_late, is_long}
use Rattle.cm_language.specs.declared.fault.AsmKind.{AsmKind}
use Rattle.cm_language.specs.Lines.{◌>>=◌}
use Rattle.cm_language.specs.Program.{Reading, nothing_read}
use Rattle.cm_session.specs.declared.command.Command.{Command}
use Rattle.cm_session.specs.declared.command.Command.TheVariants as command
use Rattle.cm_session.specs.Session as session
use Rattle.cm_session.specs.Whole.{asks_poke}
use Rattle.lab_front.specs.declared.for_all.Asked.{Asked}
use Rattle.lab_front.specs.declared.for_all.Asked.TheVariants.{Get, Put, Forget}
use Rattle.lab_front.specs.Asked.{is_of_program, question_of}
use Rattle.lab_front.specs.ForAll.{is_for_all, asked_of}
use Rattle.lab_front.specs.Telling.{numbers_lines}
use Rattle.lab_front.specs.Front.{Front, FrontAnswered, front_of, front_opening, without_acts, read_more}
use Rattle.lab_front.specs.Front.{front_after_line, front_after_lines}

-- the line is one of a program
abbrev pub is_program_line : List ℕ → Bool
is_program_line line = is_of_program (words_of line)

-- the lines of a program among these
abbrev pub program_lines : List (List ℕ) → List (List ℕ)
program_lines lines = filter is_program_line lines

-- what is asked of all processors changes the machine: numbers are put, or the logs emptied
abbrev pub is_change : Asked → Bool
is_change (Put field) = true
is_change Forget = true
is_change _ = false

-- a line, once read, asks all processors for a change; a line that is refused asks for none
abbrev pub asks_change : Result (Asked × List ℕ) AsmKind → Bool
asks_change (Ok it) = is_change it.0
asks_change (Err kind) = false

-- the words of a line that is none of a program poke a bit, put numbers, or empty the logs
abbrev pub changes : ℕ → List (List ℕ) → Bool
changes n words = if is_for_all words then asks_change (asked_of n words) else asks_poke (question_of n words)

-- no line does so
abbrev pub HaveNoChange : ℕ → List (List ℕ) → Type 0
HaveNoChange n [] = Unit {0}
HaveNoChange n (line ∷ lines) = (changes n (words_of line) ≡ false) × HaveNoChange n lines

-- what is read when these lines, of programs and phrases, were read too
abbrev pub read_lines : Reading → List (List ℕ) → Result Reading AsmKind
read_lines r [] = Ok r
read_lines r (line ∷ lines) = read_more r (words_of line) >>= λ next. read_lines next lines

-- what a line adds is accepted, and its acts are refused: they are too many, or the counter has no room
abbrev pub refuses_acts : Front → Result Reading AsmKind → Bool
refuses_acts front (Ok read) = is_long read.acts || is_late front.machine.clock read.acts
refuses_acts front (Err kind) = false

-- of no line that is so
abbrev pub AreRun : ℕ → ℕ → Front → List (List ℕ) → Type 0
AreRun n cap front [] = Unit {0}
AreRun n cap front (line ∷ lines) =
    (refuses_acts front (read_more front.reading (words_of line)) ≡ false)
    × AreRun n cap (front_after_line n cap front line).front lines

-- where the program lines and phrases, as one text, are accepted, no acts are refused and nothing is poked, put or forgotten, the
-- machine is that after a run of the text's acts, and the fields and the context are those of the text: what is asked
-- in between changes nothing
abbrev pub FrontsRunTheirPrograms : Type 0
FrontsRunTheirPrograms = (n cap : ℕ) (start : Machine) (lines : List (List ℕ)) (read : Reading)
    → IsMachine n cap start → read_lines nothing_read (program_lines lines) ≡ Ok read
    → HaveNoChange n lines → AreRun n cap (front_opening start) lines
    → (front_after_lines n cap (front_opening start) lines).front ≡ front_of (run_of n cap start read.acts) (without_acts read)

-- what is asked of the machine alone, and a poke; not what bears on the acts of a session
abbrev pub is_of_machine : Command → Bool
is_of_machine command.Step = false
is_of_machine command.Run = false
is_of_machine (command.Break i) = false
is_of_machine (command.Clear i) = false
is_of_machine command.WireOn = false
is_of_machine command.WireOff = false
is_of_machine _ = true

-- a front end and a session answer alike, and have the same machine then
pub record AnswerAlike (asked : FrontAnswered) (heard : session.Answered) : Type 0 where
  pub answer : asked.answer ≡ heard.answer
  pub machine : asked.front.machine ≡ heard.session.machine

-- a question is answered as a session over the same machine answers it, whatever acts that has and wherever it stands in them
abbrev pub FrontsAnswerAsSessions : Type 0
FrontsAnswerAsSessions = (n cap : ℕ) (front : Front) (acts : List Act) (here : session.Session) (line : List ℕ)
    (it : Command) → here.machine ≡ front.machine → is_program_line line ≡ false
    → question_of n (words_of line) ≡ Ok (Some it) → is_of_machine it ≡ true
    → AnswerAlike (front_after_line n cap front line) (session.after_line n cap acts here line)

-- `get` tells the numbers that `put` put into the same field
abbrev pub FrontsReadBack : Type 0
FrontsReadBack = (n cap : ℕ) (front : Front) (putting getting : List ℕ) (field : Span) (numbers : List ℕ)
    → IsMachine n cap front.machine → asked_of n (words_of putting) ≡ Ok (Put field, numbers)
    → asked_of n (words_of getting) ≡ Ok (Get field, [])
    → (front_after_line n cap (front_after_line n cap front putting).front getting).answer ≡ numbers_lines (2 ^ n) 16 numbers
