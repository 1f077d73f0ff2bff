-- A debugger with its machine: its states, and how it goes from one to the next. Ours.
use Rattle.std.specs.Prelude.{◌≡◌, ℕ, Bool, Result, Ok, Err, List, ◌++◌, drop}
use Rattle.cm_model.specs.declared.act.Act.{Act}
use Rattle.cm_model.specs.Machine.{Machine}
use Rattle.cm_array.specs.Faults.{lacked_after}
use Rattle.cm_session.specs.Session.{Session, Answered, everywhere, at_breaks, going}
use Rattle.cm_session.specs.Stretches.{arrived}
use Rattle.cm_session.specs.Ends.{IsInFlight}
use Rattle.cm_debug.specs.declared.debugger.Debugger.{Debugger}
use Rattle.cm_debug.specs.declared.debugger.Stops.{Stops}
use Rattle.cm_debug.specs.declared.debugger.Stops.TheVariants.{Everywhere, AtBreaks}
use Rattle.cm_debug.specs.declared.out_of.OutOf.{OutOf}
use Rattle.cm_debug.specs.Telling.{is_thread}

-- the session of a machine and its debugger
abbrev pub session_of : Machine → Debugger → Session
session_of machine debugger = record {
  machine = machine;
  position = debugger.position;
  breaks = debugger.breakpoints.items;
  report = debugger.trace;
}

-- where acts stop
abbrev pub stops_at : Stops → List Bool → ℕ → Bool
stops_at Everywhere breaks = everywhere
stops_at AtBreaks breaks = at_breaks breaks

-- the program, the session, the answer that is made, and how often the runner lacked a thread
pub record DebuggerView : Type 0 where
  pub acts : List Act
  pub session : Session
  pub answer : List ℕ
  pub lacked : ℕ

-- the state of a machine and its debugger
abbrev pub state : Machine → Debugger → List ℕ → ℕ → DebuggerView
state machine debugger answer lacked = record {
  acts = debugger.acts.now;
  session = session_of machine debugger;
  answer = answer;
  lacked = lacked;
}

-- the acts that are left are run until they stop
abbrev pub gone : ℕ → ℕ → Stops → DebuggerView → Answered
gone n cap stops now =
    going n cap (stops_at stops now.session.breaks) now.session (drop now.session.position now.acts)

-- acts have come to this position, where they may stop
abbrev pub come : ℕ → ℕ → Stops → DebuggerView → Answered
come n cap stops now =
    arrived n cap (stops_at stops now.session.breaks) now.session (drop now.session.position now.acts)

-- what was to be done is done, and its answer is made
pub record IsDone (one : Answered) (before after : DebuggerView) : Type 0 where
  pub session : after.session ≡ one.session
  pub answer : after.answer ≡ before.answer ++ one.answer
  pub acts : after.acts ≡ before.acts
  pub lacked : after.lacked ≡ before.lacked

-- it is given up: the machine is as it was, or on the way
pub record IsLeft (n cap : ℕ) (one : Answered) (before after : DebuggerView) (want : OutOf) : Type 0 where
  pub machine : IsInFlight n cap before.acts before.session one.session after.session.machine
  pub lacked : after.lacked ≡ lacked_after (is_thread want) before.lacked

-- how a debugger goes on that is to do and answer this
abbrev pub Goes : ℕ → ℕ → Answered → DebuggerView → DebuggerView → Result (Unit {0}) OutOf → Type 0
Goes n cap one before after (Ok done) = IsDone one before after
Goes n cap one before after (Err want) = IsLeft n cap one before after want
