-- A session: what it does and answers line by line, one act after another. Ours.
use Rattle.std.specs.Prelude.{ℕ, ◌+◌, ◌-◌, ◌^◌, ◌==◌, ◌&&◌, Bool, true, false, if◌then◌else◌, Option, Some, None}
use Rattle.std.specs.Prelude.{Result, Ok, Err, List, [], ◌∷◌, ◌++◌, length, drop, replicate, slice_index_or}
use Rattle.std.specs.Prelude.{slice_set, codes, decimal}
use Rattle.cm_bits.specs.Bit.{bit_number}
use Rattle.cm_bits.specs.Text.{words_of}
use Rattle.cm_model.specs.declared.act.Act.{Act}
use Rattle.cm_model.specs.declared.act.Act.TheVariants.{Nano, Sense, Cycle}
use Rattle.cm_model.specs.Processor.{flag, field_value}
use Rattle.cm_model.specs.Array.{processor_of, wire, nth_or_nil}
use Rattle.cm_model.specs.Wiring.{rule_number}
use Rattle.cm_model.specs.Machine.{Machine, run_of}
use Rattle.cm_model.specs.Found.{found_in}
use Rattle.cm_array.specs.Pokes.{machine_with_memory_bit, machine_with_flag}
use Rattle.cm_session.specs.declared.command.Command.{Command}
use Rattle.cm_session.specs.declared.command.Command.TheVariants as command
use Rattle.cm_session.specs.declared.command.Refusal.{Refusal}
use Rattle.cm_session.specs.Commands.{command_of}
use Rattle.cm_session.specs.Answer.{line, buffer_lines, log_lines, found_line, refusal_number, CLOCK, refused_line}
use Rattle.cm_session.specs.Answer.{at_line, end_line, sense_line}

-- a session between two lines
pub record Session : Type 0 where
  pub machine : Machine
  -- the index of the next act
  pub position : ℕ
  -- by act, whether it has a breakpoint
  pub breaks : List Bool
  -- whether each look at the wire is told
  pub report : Bool

-- before the first line, with a program of so many acts
abbrev pub opening : Machine → ℕ → Session
opening machine count = record { machine = machine; position = 0; breaks = replicate count false; report = false }

-- a session after a line, and what was answered to it
pub record Answered : Type 0 where
  pub session : Session
  pub answer : List ℕ

-- a session, and this answer
abbrev pub answered_with : Session → List ℕ → Answered
answered_with session answer = record { session = session; answer = answer }

-- what was answered before, and then the rest
abbrev pub preceded_by : List ℕ → Answered → Answered
preceded_by first rest = answered_with rest.session (first ++ rest.answer)

-- ---- acts

-- the act is a petit cycle, and the counter has no room for it
abbrev pub lacks_room : ℕ → Act → Bool
lacks_room clock Cycle = clock == 2 ^ 63 - 1
lacks_room clock Sense = false
lacks_room clock (Nano nano) = false

-- what an act tells: a look at the wire, where that is to be told
abbrev pub answer_of_act : Session → Act → List ℕ
answer_of_act session Sense = if session.report then sense_line session.position (wire session.machine.chips) else []
answer_of_act session Cycle = []
answer_of_act session (Nano nano) = []

-- the session one act on, on a cube of n dimensions whose routers have room for cap messages each
unfoldable pub one_on : ℕ → ℕ → Session → Act → Session
one_on n cap session act =
    record session { machine = run_of n cap session.machine (act ∷ []); position = session.position + 1 }

-- there are acts
abbrev pub has_acts : List Act → Bool
has_acts [] = false
has_acts (act ∷ acts) = true

-- acts are run, one after another, until a place is reached where the session stops, or their end,
-- or a petit cycle without room
unfoldable pub going : ℕ → ℕ → (ℕ → Bool) → Session → List Act → Answered
going n cap stops session [] = answered_with session end_line
going n cap stops session (act ∷ acts) =
    if lacks_room session.machine.clock act then answered_with session (refused_line CLOCK)
    else preceded_by (answer_of_act session act)
    (if stops (session.position + 1) && has_acts acts
    then answered_with (one_on n cap session act) (at_line (session.position + 1))
    else going n cap stops (one_on n cap session act) acts)

-- where a step stops: everywhere
abbrev pub everywhere : ℕ → Bool
everywhere position = true

-- where a run stops: at breakpoints
abbrev pub at_breaks : List Bool → ℕ → Bool
at_breaks breaks position = slice_index_or breaks position false

-- ---- commands

-- the session with a bit at a breakpoint's place
abbrev pub with_break : Session → ℕ → Bool → Session
with_break session i b = record session { breaks = slice_set session.breaks i b }

-- the session with another machine
abbrev pub with_machine : Session → Machine → Session
with_machine session machine = record session { machine = machine }

-- what a command does and is answered, with a program of these acts
abbrev pub obeyed : ℕ → ℕ → List Act → Session → Command → Answered
obeyed n cap acts session command.Step = going n cap everywhere session (drop session.position acts)
obeyed n cap acts session command.Run = going n cap (at_breaks session.breaks) session (drop session.position acts)
obeyed n cap acts session (command.Break i) = answered_with (with_break session i true) (line (codes "break" ∷ decimal i ∷ []))
obeyed n cap acts session (command.Clear i) = answered_with (with_break session i false) (line (codes "clear" ∷ decimal i ∷ []))
obeyed n cap acts session command.WireOn =
    answered_with (record session { report = true }) (line (codes "wire" ∷ codes "on" ∷ []))
obeyed n cap acts session command.WireOff =
    answered_with (record session { report = false }) (line (codes "wire" ∷ codes "off" ∷ []))
obeyed n cap acts session command.WireShow =
    answered_with session (line (codes "wire" ∷ decimal (bit_number (wire session.machine.chips)) ∷ []))
obeyed n cap acts session (command.Field place bits) =
    answered_with session
    (line (codes "field" ∷ decimal (field_value (processor_of session.machine.chips place) bits.at bits.len) ∷ []))
obeyed n cap acts session (command.Flag place number) =
    answered_with session
    (line (codes "flag" ∷ decimal (bit_number (flag (processor_of session.machine.chips place) number)) ∷ []))
obeyed n cap acts session (command.Poke place address b) =
    answered_with (with_machine session (machine_with_memory_bit session.machine place.chip place.proc address b))
    (line (codes "ok" ∷ []))
obeyed n cap acts session (command.PokeFlag place number b) =
    answered_with (with_machine session (machine_with_flag session.machine place.chip place.proc number b))
    (line (codes "ok" ∷ []))
obeyed n cap acts session (command.Buffer c) = answered_with session (buffer_lines (nth_or_nil session.machine.buffers c))
obeyed n cap acts session (command.Find tag) = answered_with session (found_line (found_in n session.machine tag))
obeyed n cap acts session (command.Events c) = answered_with session (log_lines (nth_or_nil session.machine.logs c))
obeyed n cap acts session command.Rule =
    answered_with session (line (codes "rule" ∷ decimal (rule_number session.machine.routing.rule) ∷ []))

-- ---- lines

-- a line without words is not answered; one that is refused changes nothing
abbrev pub answered : ℕ → ℕ → List Act → Session → Result (Option Command) Refusal → Answered
answered n cap acts session (Ok None) = answered_with session []
answered n cap acts session (Ok (Some command)) = obeyed n cap acts session command
answered n cap acts session (Err refusal) = answered_with session (refused_line (refusal_number refusal))

-- after a line
unfoldable pub after_line : ℕ → ℕ → List Act → Session → List ℕ → Answered
after_line n cap acts session line = answered n cap acts session (command_of n (length acts) (words_of line))

-- after lines, one after another
unfoldable pub after_lines : ℕ → ℕ → List Act → Session → List (List ℕ) → Answered
after_lines n cap acts session [] = answered_with session []
after_lines n cap acts session (line ∷ lines) =
    preceded_by (after_line n cap acts session line).answer
    (after_lines n cap acts (after_line n cap acts session line).session lines)

-- what a session of these lines answers
abbrev pub answers : ℕ → ℕ → Machine → List Act → List (List ℕ) → List ℕ
answers n cap machine acts lines = (after_lines n cap acts (opening machine (length acts)) lines).answer

-- the machine that it leaves
abbrev pub left : ℕ → ℕ → Machine → List Act → List (List ℕ) → Machine
left n cap machine acts lines = (after_lines n cap acts (opening machine (length acts)) lines).session.machine
