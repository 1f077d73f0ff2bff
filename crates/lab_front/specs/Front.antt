-- A front end: what it does and answers line by line. Ours.
use Rattle.std.specs.Prelude.{ℕ, ◌^◌, ◌||◌, if◌then◌else◌, Option, Some, None, Result, Ok, Err, List, [], ◌∷◌, ◌++◌, codes, decimal}
use Rattle.cm_bits.specs.Bit.{bit_number}
use Rattle.cm_bits.specs.Text.{words_of}
use Rattle.cm_model.specs.declared.act.Act.{Act}
use Rattle.cm_model.specs.Array.{wire}
use Rattle.cm_model.specs.Place.{chip_columns}
use Rattle.cm_model.specs.Machine.{Machine, run_of}
use Rattle.cm_array.specs.Acts.{is_late, is_long}
use Rattle.cm_array.specs.SavedLogs.{unlogged}
use Rattle.cm_image_format.specs.Whole.{text_of}
use Rattle.cm_language.specs.declared.fault.AsmKind.{AsmKind}
use Rattle.cm_language.specs.Lines.{◌>>=◌}
use Rattle.cm_language.specs.Program.{Reading, nothing_read, reading_after_words}
use Rattle.lab_phrases.specs.Faults.{first_phrase_fault}
use Rattle.lab_source.specs.declared.verb.PhraseVerb.{PhraseVerb}
use Rattle.lab_source.specs.Says.{phrase_verb_of, phrase_of}
use Rattle.lab_source.specs.Expansion.{with_phrase}
use Rattle.cm_session.specs.declared.command.Command.{Command}
use Rattle.cm_session.specs.declared.command.Refusal.{Refusal}
use Rattle.cm_session.specs.Answer.{line, refused_line, CLOCK, ok_line}
use Rattle.cm_session.specs.Session as session
use Rattle.cm_session.specs.Stretches.{looks_at}
use Rattle.lab_data.specs.declared.order.Order.TheVariants.{Chips as by_chips}
use Rattle.lab_data.specs.Data.{numbers_of, flags_of, machine_with_numbers}
use Rattle.lab_data.specs.Pictures.{chip_rows, buffered}
use Rattle.lab_front.specs.Asked.{is_of_program, question_of, kind_number}
use Rattle.lab_front.specs.declared.for_all.Asked.{Asked}
use Rattle.lab_front.specs.declared.for_all.Asked.TheVariants.{Get, GetFlag, GetBuffers, Put, Standing, Clock, Image}
use Rattle.lab_front.specs.declared.for_all.Asked.TheVariants.{Forget}
use Rattle.lab_front.specs.ForAll.{is_for_all, asked_of}
use Rattle.lab_front.specs.Telling.{numbers_lines, standing_counts_line, image_lines}

-- a front end between two lines
pub record Front : Type 0 where
  pub machine : Machine
  -- the fields and the context of the program so far, without its acts, which are run
  pub reading : Reading

-- of a machine, and what was read
abbrev pub front_of : Machine → Reading → Front
front_of machine reading = record { machine = machine; reading = reading }

-- before the first line
abbrev pub front_opening : Machine → Front
front_opening machine = front_of machine nothing_read

-- a front end after a line, and what was answered to it
pub record FrontAnswered : Type 0 where
  pub front : Front
  pub answer : List ℕ

-- a front end, and this answer
abbrev pub front_answered_with : Front → List ℕ → FrontAnswered
front_answered_with front answer = record { front = front; answer = answer }

-- what was answered before, and then the rest
abbrev pub front_preceded_by : List ℕ → FrontAnswered → FrontAnswered
front_preceded_by first rest = front_answered_with rest.front (first ++ rest.answer)

-- ---- a line of the program

-- what is read with a line of this verb more, which says a phrase; or else with one of the language
abbrev pub read_by : Reading → Option PhraseVerb → List (List ℕ) → Result Reading AsmKind
read_by r None words = reading_after_words r words
read_by r (Some asked) words =
    phrase_of r.fields asked words >>= λ said. with_phrase r said (first_phrase_fault said r.context)

-- with one line more, by its words
abbrev pub read_more : Reading → List (List ℕ) → Result Reading AsmKind
read_more r words = read_by r (phrase_verb_of words) words

-- names and context stay
abbrev pub without_acts : Reading → Reading
without_acts read = record { fields = read.fields; context = read.context; acts = [] }

-- the number of the refusal of acts that are too many for one run, which those of no line are
abbrev pub LONG : ℕ
LONG = 6

-- what acts that were run answer: a look tells the wire, as `wire show` does
abbrev pub done_line : Machine → List Act → List ℕ
done_line machine acts =
    if looks_at acts 0 then line (codes "wire" ∷ decimal (bit_number (wire machine.chips)) ∷ [])
    else line (codes "ok" ∷ [])

-- the answer to the acts of a line, which are run at once unless the counter has no room for a petit cycle
abbrev pub acts_line : Machine → List Act → List ℕ
acts_line machine acts =
    if is_long acts then refused_line LONG
    else (if is_late machine.clock acts then refused_line CLOCK else done_line machine acts)

-- the machine after them
abbrev pub after_accepted_acts : ℕ → ℕ → Machine → List Act → Machine
after_accepted_acts n cap machine acts =
    if is_long acts || is_late machine.clock acts then machine else run_of n cap machine acts

-- a line that is refused changes nothing
abbrev pub said : ℕ → ℕ → Front → Result Reading AsmKind → FrontAnswered
said n cap front (Ok read) =
    front_answered_with (front_of (after_accepted_acts n cap front.machine read.acts) (without_acts read))
    (acts_line front.machine read.acts)
said n cap front (Err kind) = front_answered_with front (refused_line (kind_number kind))

-- ---- a question

-- it is answered, and a bit is poked, as in a session over this machine that has no acts
abbrev pub answered_to : ℕ → ℕ → Machine → Result (Option Command) Refusal → session.Answered
answered_to n cap machine question = session.answered n cap [] (session.opening machine 0) question

-- the fields and the context stay
abbrev pub asked : ℕ → ℕ → Front → Result (Option Command) Refusal → FrontAnswered
asked n cap front question =
    front_answered_with (front_of (answered_to n cap front.machine question).session.machine front.reading)
    (answered_to n cap front.machine question).answer

-- ---- a line for all processors

-- a machine after it, and what was answered to it
pub record Done : Type 0 where
  pub machine : Machine
  pub answer : List ℕ

-- a machine, and this answer
abbrev pub done : Machine → List ℕ → Done
done machine answer = record { machine = machine; answer = answer }

-- what is done and answered on a cube of n dimensions, where these numbers are given
abbrev pub for_all_obeyed : ℕ → ℕ → Machine → Asked → List ℕ → Done
for_all_obeyed n cap machine (Get field) numbers =
    done machine (numbers_lines (2 ^ n) 16 (numbers_of n by_chips field.at field.len machine.chips))
for_all_obeyed n cap machine (GetFlag number) numbers =
    done machine (numbers_lines (2 ^ n) 16 (flags_of n by_chips number machine.chips))
for_all_obeyed n cap machine GetBuffers numbers =
    done machine (numbers_lines (chip_rows n) (chip_columns n) (buffered n machine))
for_all_obeyed n cap machine (Put field) numbers =
    done (machine_with_numbers n by_chips field.at field.len numbers machine) ok_line
for_all_obeyed n cap machine Standing numbers = done machine (standing_counts_line n machine)
for_all_obeyed n cap machine Clock numbers = done machine (line (codes "clock" ∷ decimal machine.clock ∷ []))
for_all_obeyed n cap machine Image numbers = done machine (image_lines (text_of n cap machine))
for_all_obeyed n cap machine Forget numbers = done (unlogged n machine) ok_line

-- the fields and the context stay; a line that is refused changes nothing
abbrev pub for_all : ℕ → ℕ → Front → Result (Asked × List ℕ) AsmKind → FrontAnswered
for_all n cap front (Ok it) =
    front_answered_with (front_of (for_all_obeyed n cap front.machine it.0 it.1).machine front.reading)
    (for_all_obeyed n cap front.machine it.0 it.1).answer
for_all n cap front (Err kind) = front_answered_with front (refused_line (kind_number kind))

-- ---- lines

-- after a line, by its words
abbrev pub after_words_of : ℕ → ℕ → Front → List (List ℕ) → FrontAnswered
after_words_of n cap front words =
    if is_of_program words then said n cap front (read_more front.reading words)
    else (if is_for_all words then for_all n cap front (asked_of n words)
    else asked n cap front (question_of n words))

-- after a line
unfoldable pub front_after_line : ℕ → ℕ → Front → List ℕ → FrontAnswered
front_after_line n cap front line = after_words_of n cap front (words_of line)

-- after lines, one after another
unfoldable pub front_after_lines : ℕ → ℕ → Front → List (List ℕ) → FrontAnswered
front_after_lines n cap front [] = front_answered_with front []
front_after_lines n cap front (line ∷ lines) =
    front_preceded_by (front_after_line n cap front line).answer
    (front_after_lines n cap (front_after_line n cap front line).front lines)

-- what is answered to these lines
abbrev pub front_answers : ℕ → ℕ → Machine → List (List ℕ) → List ℕ
front_answers n cap start lines = (front_after_lines n cap (front_opening start) lines).answer

-- the machine that they leave
abbrev pub front_left : ℕ → ℕ → Machine → List (List ℕ) → Machine
front_left n cap start lines = (front_after_lines n cap (front_opening start) lines).front.machine
