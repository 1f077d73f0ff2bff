-- Where a session stands between two bytes of its commands, and how it breaks off. Ours.
use Rattle.std.specs.Prelude.{◌≡◌, ℕ, ◌+◌, Option, List, length}
use Rattle.std.specs.Io.KnownBytes.{Appends, append_known}
use Rattle.cm_model.specs.declared.act.Act.{Act}
use Rattle.cm_model.specs.Machine.{Machine}
use Rattle.cm_array.specs.Faults.{lacked_after}
use Rattle.cm_session.specs.declared.fault.SessionFault.{SessionFault}
use Rattle.cm_session.specs.declared.fault.SessionFault.TheVariants.{Write, Memory, NoThread}
use Rattle.cm_session.specs.Session.{Session, Answered, opening, after_lines}
use Rattle.cm_session.specs.Ends.{ended_lines, open_line, is_session_no_thread, IsStopped, IsAborted}
use Rattle.cm_debug.specs.declared.console.Console.{Console}
use Rattle.cm_debug.specs.State.{session_of}

-- the program, the session, the open line, the bytes of the sink, those that are gathered behind them and how many went
-- out, and how often the runner lacked a thread
pub record Talk : Type 0 where
  pub acts : List Act
  pub session : Session
  pub line : List ℕ
  pub out : Option (List ℕ)
  pub kept : List ℕ
  pub sent : ℕ
  pub lacked : ℕ

-- the talk of a machine and its console
abbrev pub talk : Machine → Console → Option (List ℕ) → ℕ → Talk
talk machine console out lacked = record {
  acts = console.debugger.acts.now;
  session = session_of machine console.debugger;
  line = console.line.items;
  out = out;
  kept = console.output.bytes.items;
  sent = console.output.sent;
  lacked = lacked;
}

-- the bytes of its sink, and behind them those that are gathered
abbrev pub holds_of : Talk → Option (List ℕ)
holds_of now = append_known now.out now.kept

-- how many bytes it has answered
abbrev pub answered_count : Talk → ℕ
answered_count now = now.sent + length now.kept

-- ---- since the session began

-- where a session begins and ends: its program, its machine, the bytes of its sink, and how often its runner lacked a
-- thread
pub record Setting : Type 0 where
  pub acts : List Act
  pub machine : Machine
  pub out : Option (List ℕ)
  pub lacked : ℕ

-- the setting of this program, machine and sink, where the runner lacked a thread so often
abbrev pub setting : List Act → Machine → Option (List ℕ) → ℕ → Setting
setting acts machine out lacked = record { acts = acts; machine = machine; out = out; lacked = lacked }

-- the session that began so after these lines, and all that it answered
abbrev pub after_all : ℕ → ℕ → Setting → List (List ℕ) → Answered
after_all n cap first lines =
    after_lines n cap first.acts (opening first.machine (length first.acts)) lines

-- of a session that began so these bytes were taken: the lines that ended in them are answered, the open line is kept
pub record AreProcessed (n cap : ℕ) (first : Setting) (taken : List ℕ) (now : Talk) : Type 0 where
  pub acts : now.acts ≡ first.acts
  pub session : now.session ≡ (after_all n cap first (ended_lines taken)).session
  pub line : now.line ≡ open_line taken
  pub written : Appends first.out (holds_of now) (after_all n cap first (ended_lines taken)).answer
  pub count : answered_count now ≡ length (after_all n cap first (ended_lines taken)).answer
  pub lacked : now.lacked ≡ first.lacked

-- how it breaks off among lines
abbrev pub AbortsAmong : ℕ → ℕ → Setting → List (List ℕ) → Machine → Option (List ℕ) → SessionFault → Type 0
AbortsAmong n cap first lines machine out_after (Write count) =
    IsStopped n cap first.acts first.machine first.out lines machine out_after count
AbortsAmong n cap first lines machine out_after Memory =
    IsAborted n cap first.acts first.machine first.out lines machine out_after
AbortsAmong n cap first lines machine out_after NoThread =
    IsAborted n cap first.acts first.machine first.out lines machine out_after
AbortsAmong n cap first lines machine out_after _ = ⊥

-- it has broken off among these lines, and the runner lacked a thread if that is the fault
pub record IsBroken (n cap : ℕ) (first : Setting) (lines : List (List ℕ)) (now : Talk) (fault : SessionFault)
    : Type 0 where
  pub breaks : AbortsAmong n cap first lines now.session.machine now.out fault
  pub lacked : now.lacked ≡ lacked_after (is_session_no_thread fault) first.lacked
