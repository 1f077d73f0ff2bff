-- What a session reads of its source, and how it ends. Ours.
use Rattle.std.specs.Prelude.{◌≡◌, ℕ, ◌+◌, ◌≤◌, ◌⊎◌, Option, Some, Result, Ok, Err, OnOk, List, [], ◌++◌, length}
use Rattle.std.specs.Io.KnownBytes.{Consumes, IsAtEnd}
use Rattle.cm_array.specs.Faults.{CountsLacks}
use Rattle.cm_session.specs.declared.fault.SessionFault.{SessionFault}
use Rattle.cm_session.specs.Reading.{PIECE_LIMIT}
use Rattle.cm_session.specs.Ends.{COMMANDS_LIMIT, is_session_no_thread, Ends}
use Rattle.cm_debug.specs.Talk.{Talk, Setting, setting, AreProcessed}

-- what a source may have left of which this is known: nothing, or what it is known to have
abbrev pub MayBeLeft : Option (List ℕ) → List ℕ → Type 0
MayBeLeft rest more = (more ≡ []) ⊎ (rest ≡ Some more)

-- the source gave a text, and the session ended so, whatever may be left of it; after Ok nothing is
pub record HasEnded (n cap : ℕ) (first : Setting) (source rest : Option (List ℕ)) (last : Setting)
    (result : Result (Unit {0}) SessionFault) : Type 0 where
  pub text : List ℕ
  pub read : Consumes source rest text
  pub few : length text ≤ COMMANDS_LIMIT + PIECE_LIMIT
  pub ends : (more : List ℕ) → MayBeLeft rest more → Ends n cap first.acts (text ++ more) (Some more) first.machine
      first.out last.machine last.out result
  pub end : OnOk result (IsAtEnd rest)
  pub lacked : CountsLacks is_session_no_thread first.lacked last.lacked result

-- the source gave a text to its end, which is taken
pub record HasTakenAll (n cap : ℕ) (first : Setting) (source rest : Option (List ℕ)) (now : Talk) : Type 0 where
  pub text : List ℕ
  pub read : Consumes source rest text
  pub end : IsAtEnd rest
  pub within : length text ≤ COMMANDS_LIMIT
  pub told : AreProcessed n cap first text now

-- how a console takes what a source gives
abbrev pub TakesAll : ℕ → ℕ → Setting → Option (List ℕ) → Option (List ℕ) → Talk → Result (Unit {0}) SessionFault
    → Type 0
TakesAll n cap first source rest now (Ok done) = HasTakenAll n cap first source rest now
TakesAll n cap first source rest now (Err fault) =
    HasEnded n cap first source rest (setting first.acts now.session.machine now.out now.lacked) (Err fault)
