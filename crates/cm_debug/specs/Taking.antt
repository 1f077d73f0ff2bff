-- How a console takes bytes, and answers a line. Ours.
use Rattle.std.specs.Prelude.{◌≡◌, ℕ, ◌+◌, ◌*◌, ◌^◌, ◌≤◌, ◌⊎◌, Option, Result, Ok, Err, List, ◌++◌, length}
use Rattle.std.specs.Io.KnownBytes.{Appends}
use Rattle.cm_model.specs.Machine.{Machine}
use Rattle.cm_array.specs.Faults.{lacked_after}
use Rattle.cm_session.specs.declared.fault.SessionFault.{SessionFault}
use Rattle.cm_session.specs.declared.fault.SessionFault.TheVariants.{Write, Memory, NoThread}
use Rattle.cm_session.specs.Session.{Answered}
use Rattle.cm_session.specs.Ends.{ended_lines, is_session_no_thread, IsInFlight}
use Rattle.cm_debug.specs.BufferedOutput.{IsShortWriteAfter}
use Rattle.cm_debug.specs.Talk.{Talk, Setting, holds_of, answered_count, AreProcessed, IsBroken}

-- ---- bytes

-- more bytes are taken, whatever was taken before
pub record HasTaken (n cap : ℕ) (before : Talk) (bytes : List ℕ) (after : Talk) : Type 0 where
  pub told : (first : Setting) (taken : List ℕ) → AreProcessed n cap first taken before
      → AreProcessed n cap first (taken ++ bytes) after
  pub few : answered_count after ≤ answered_count before + length bytes * 2 ^ 64

-- the session breaks off among them
pub record HasStopped (n cap : ℕ) (before : Talk) (bytes : List ℕ) (after : Talk) (fault : SessionFault)
    : Type 0 where
  pub broken : (first : Setting) (taken : List ℕ) → AreProcessed n cap first taken before
      → IsBroken n cap first (ended_lines (taken ++ bytes)) after fault

-- how a console takes bytes
abbrev pub Takes : ℕ → ℕ → Talk → List ℕ → Talk → Result (Unit {0}) SessionFault → Type 0
Takes n cap before bytes after (Ok done) = HasTaken n cap before bytes after
Takes n cap before bytes after (Err fault) = HasStopped n cap before bytes after fault

-- ---- a line that was read

-- it is answered, and its answer gathered or written
pub record HasAnswered (one : Answered) (before after : Talk) : Type 0 where
  pub acts : after.acts ≡ before.acts
  pub session : after.session ≡ one.session
  pub line : after.line ≡ before.line
  pub written : Appends (holds_of before) (holds_of after) one.answer
  pub count : answered_count after ≡ answered_count before + length one.answer
  pub few : answered_count after ≤ answered_count before + 2 ^ 64
  pub lacked : after.lacked ≡ before.lacked

-- how it breaks off. Where its answer cannot be written whole a front of that and of what was gathered went out, and the
-- machine is that after the line, or on the way to it; else what was gathered is written, nothing of the answer, and the
-- machine is on the way
abbrev pub AbortsIn : ℕ → ℕ → Answered → Talk → Machine → Option (List ℕ) → SessionFault → Type 0
AbortsIn n cap one before machine out_after (Write count) =
    IsShortWriteAfter before.sent (before.kept ++ one.answer) before.out out_after count
    × ((machine ≡ one.session.machine) ⊎ IsInFlight n cap before.acts before.session one.session machine)
AbortsIn n cap one before machine out_after Memory =
    Appends before.out out_after before.kept × IsInFlight n cap before.acts before.session one.session machine
AbortsIn n cap one before machine out_after NoThread =
    Appends before.out out_after before.kept × IsInFlight n cap before.acts before.session one.session machine
AbortsIn n cap one before machine out_after _ = ⊥

-- it has broken off
pub record HasAborted (n cap : ℕ) (one : Answered) (before after : Talk) (fault : SessionFault) : Type 0 where
  pub breaks : AbortsIn n cap one before after.session.machine after.out fault
  pub lacked : after.lacked ≡ lacked_after (is_session_no_thread fault) before.lacked

-- how a console goes on that is to answer this
abbrev pub ConsoleAnswers : ℕ → ℕ → Answered → Talk → Talk → Result (Unit {0}) SessionFault → Type 0
ConsoleAnswers n cap one before after (Ok done) = HasAnswered one before after
ConsoleAnswers n cap one before after (Err fault) = HasAborted n cap one before after fault
