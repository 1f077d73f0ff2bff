-- How a session ends: what it wrote and the machine that it left, after each of its faults too. Ours.
use Rattle.std.specs.Prelude.{◌≡◌, ℕ, ◌+◌, ◌<◌, ◌≤◌, ◌⊎◌, Bool, true, false, if◌then◌else◌, nat_le, Option, Some}
use Rattle.std.specs.Prelude.{Result, Ok, Err, OnOk, List, [], ◌∷◌, ◌++◌, length, take, drop}
use Rattle.std.specs.List.{slice_split}
use Rattle.std.specs.Io.KnownBytes.{Appends, Consumes, IsAtEnd}
use Rattle.cm_bits.specs.Text.{is_line_end, lines_of}
use Rattle.cm_model.specs.declared.act.Act.{Act}
use Rattle.cm_model.specs.Machine.{Machine, run_of}
use Rattle.cm_session.specs.declared.fault.SessionFault.{SessionFault}
use Rattle.cm_session.specs.declared.fault.SessionFault.TheVariants.{Read, Write, TooMuch, Memory, NoThread}
use Rattle.cm_session.specs.Session.{Session, opening, after_line, after_lines, answers, left}

-- the most bytes of commands
abbrev pub COMMANDS_LIMIT : ℕ
COMMANDS_LIMIT = 1048576

-- all parts but the last
abbrev pub but_last : List (List ℕ) → List (List ℕ)
but_last [] = []
but_last (part ∷ []) = []
but_last (part ∷ next ∷ parts) = part ∷ but_last (next ∷ parts)

-- the last part
abbrev pub last_of : List (List ℕ) → List ℕ
last_of [] = []
last_of (part ∷ []) = part
last_of (part ∷ next ∷ parts) = last_of (next ∷ parts)

-- the lines whose end stands in a text
unfoldable pub ended_lines : List ℕ → List (List ℕ)
ended_lines text = but_last (slice_split is_line_end text)

-- what follows the last end of a line
unfoldable pub open_line : List ℕ → List ℕ
open_line text = last_of (slice_split is_line_end text)

-- the session after lines
abbrev pub session_after : ℕ → ℕ → List Act → Machine → List (List ℕ) → Session
session_after n cap acts start lines = (after_lines n cap acts (opening start (length acts)) lines).session

-- these lines are all answered, and the machine is that after them
pub record IsAnswered (n cap : ℕ) (acts : List Act) (start : Machine) (out_before : Option (List ℕ))
    (lines : List (List ℕ)) (machine : Machine)
    (out_after : Option (List ℕ)) : Type 0 where
  pub written : Appends out_before out_after (answers n cap start acts lines)
  pub machine_is : machine ≡ left n cap start acts lines

-- some of the acts are run that stand between two places of a session
pub record IsAmid (n cap : ℕ) (acts : List Act) (before after : Session) (machine : Machine) : Type 0 where
  pub count : ℕ
  pub within : before.position + count ≤ after.position
  pub machine_is : machine ≡ run_of n cap before.machine (take count (drop before.position acts))

-- what was to lead from one to the other has changed nothing, or has come so far
abbrev pub IsInFlight : ℕ → ℕ → List Act → Session → Session → Machine → Type 0
IsInFlight n cap acts before after machine = (machine ≡ before.machine) ⊎ IsAmid n cap acts before after machine

-- the machine before the first of these lines, or in the midst of it
abbrev pub IsBeforeOrAmid : ℕ → ℕ → List Act → Session → List (List ℕ) → Machine → Type 0
IsBeforeOrAmid n cap acts before [] machine = machine ≡ before.machine
IsBeforeOrAmid n cap acts before (line ∷ lines) machine =
    IsInFlight n cap acts before (after_line n cap acts before line).session machine

-- so many bytes of the answers to these lines are written; some lines are done, and perhaps some acts of the next;
-- the first byte that is not written answers one of those that are done, or the next
pub record IsStopped (n cap : ℕ) (acts : List Act) (start : Machine) (out_before : Option (List ℕ))
    (lines : List (List ℕ)) (machine : Machine)
    (out_after : Option (List ℕ)) (count : ℕ) : Type 0 where
  pub within : count < length (answers n cap start acts lines)
  pub written : Appends out_before out_after (take count (answers n cap start acts lines))
  pub done : List (List ℕ)
  pub undone : List (List ℕ)
  pub lines_are : lines ≡ done ++ undone
  pub reached : count < length (answers n cap start acts (done ++ take 1 undone))
  pub machine_is : IsBeforeOrAmid n cap acts (session_after n cap acts start done) undone machine

-- a source that has this text gave these bytes, not more than the most,
-- and the lines that ended in them are all answered
pub record IsAnsweredSoFar (n cap : ℕ) (acts : List Act) (text : List ℕ) (rest : Option (List ℕ)) (start : Machine)
    (out_before : Option (List ℕ))
    (machine : Machine) (out_after : Option (List ℕ)) : Type 0 where
  pub taken : List ℕ
  pub consumed : Consumes (Some text) rest taken
  pub within : length taken ≤ COMMANDS_LIMIT
  pub answered : IsAnswered n cap acts start out_before (ended_lines taken) machine out_after

-- some of these lines are done and their answers written, no byte more; and perhaps some acts of the next are run
pub record IsAborted (n cap : ℕ) (acts : List Act) (start : Machine) (out_before : Option (List ℕ))
    (lines : List (List ℕ)) (machine : Machine)
    (out_after : Option (List ℕ)) : Type 0 where
  pub done : List (List ℕ)
  pub undone : List (List ℕ)
  pub lines_are : lines ≡ done ++ undone
  pub written : Appends out_before out_after (answers n cap start acts done)
  pub machine_is : IsBeforeOrAmid n cap acts (session_after n cap acts start done) undone machine

-- the lines of a text that are answered: all of them, or those that end within the most bytes
abbrev pub processed_lines : List ℕ → List (List ℕ)
processed_lines text = if nat_le (length text) COMMANDS_LIMIT then lines_of text else ended_lines (take COMMANDS_LIMIT text)

-- how a session ends whose source has this text, and has that left
abbrev pub Ends : ℕ → ℕ → List Act → List ℕ → Option (List ℕ) → Machine → Option (List ℕ) → Machine → Option (List ℕ)
    → Result (Unit {0}) SessionFault → Type 0
Ends n cap acts text rest start out_before machine out_after (Ok done) =
    (length text ≤ COMMANDS_LIMIT) × IsAnswered n cap acts start out_before (lines_of text) machine out_after
Ends n cap acts text rest start out_before machine out_after (Err Read) =
    IsAnsweredSoFar n cap acts text rest start out_before machine out_after
Ends n cap acts text rest start out_before machine out_after (Err (Write count)) =
    IsStopped n cap acts start out_before (processed_lines text) machine out_after count
Ends n cap acts text rest start out_before machine out_after (Err TooMuch) =
    (COMMANDS_LIMIT < length text) × IsAnswered n cap acts start out_before (ended_lines (take COMMANDS_LIMIT text)) machine out_after
Ends n cap acts text rest start out_before machine out_after (Err Memory) =
    IsAborted n cap acts start out_before (processed_lines text) machine out_after
Ends n cap acts text rest start out_before machine out_after (Err NoThread) =
    IsAborted n cap acts start out_before (processed_lines text) machine out_after

-- a source, of which this was left in the end, gave some text, and it ended so as of that text and nothing more; after Ok
-- nothing is left. This can be said of a source that does not tell its bytes
pub record EndsForSome (n cap : ℕ) (acts : List Act) (source rest : Option (List ℕ)) (start : Machine)
    (out_before : Option (List ℕ)) (machine : Machine) (out_after : Option (List ℕ)) (result : Result (Unit {0}) SessionFault)
    : Type 0 where
  pub text : List ℕ
  pub read : Consumes source rest text
  pub ends : Ends n cap acts text (Some []) start out_before machine out_after result
  pub end : OnOk result (IsAtEnd rest)

-- it ended by a write
abbrev pub is_write : Result (Unit {0}) SessionFault → Bool
is_write (Ok done) = false
is_write (Err Read) = false
is_write (Err (Write count)) = true
is_write (Err TooMuch) = false
is_write (Err Memory) = false
is_write (Err NoThread) = false

-- a thread was wanting
abbrev pub is_session_no_thread : SessionFault → Bool
is_session_no_thread Read = false
is_session_no_thread (Write count) = false
is_session_no_thread TooMuch = false
is_session_no_thread Memory = false
is_session_no_thread NoThread = true
