-- Laws over the definitions, each the contract of a function of its name. Ours.
use Rattle.std.specs.Prelude.{◌≡◌, ℕ, ◌≤◌, Bool, List, ◌++◌}
use Rattle.cm_bits.specs.Text.{lines_of}
use Rattle.cm_model.specs.declared.act.Act.{Act}
use Rattle.cm_model.specs.Machine.{Machine}
use Rattle.cm_model.specs.Account.{account, newly_injected, SameLines}
use Rattle.cm_session.specs.Session.{Session, preceded_by, going, after_lines, left}
use Rattle.cm_session.specs.Ends.{ended_lines}

-- the second part is answered by the session that the first part leaves
abbrev pub LinesCanBeParted : Type 0
LinesCanBeParted = (n cap : ℕ) (acts : List Act) (session : Session) (lines more : List (List ℕ)) →
    after_lines n cap acts session (lines ++ more)
    ≡ preceded_by (after_lines n cap acts session lines).answer
    (after_lines n cap acts (after_lines n cap acts session lines).session more)

-- the lines of a text begin with those whose end stands in its front
pub record BeginsWith (lines first : List (List ℕ)) : Type 0 where
  pub more : List (List ℕ)
  pub is : lines ≡ first ++ more

-- however the text goes on
abbrev pub TextsCanBeParted : Type 0
TextsCanBeParted = (text more : List ℕ) → BeginsWith (lines_of (text ++ more)) (ended_lines text)

-- wherever acts stop, the position is not before the one where they began
abbrev pub SessionsNeverGoBack : Type 0
SessionsNeverGoBack = (n cap : ℕ) (stops : ℕ → Bool) (session : Session) (acts : List Act) →
    session.position ≤ (going n cap stops session acts).session.position

-- the account of the machine that a session leaves is that of the machine that it was handed, and the lines of what was
-- injected in between
abbrev pub SessionsConserveTheAccount : Type 0
SessionsConserveTheAccount = (n cap : ℕ) (machine : Machine) (acts : List Act) (lines : List (List ℕ)) →
    SameLines (account n (left n cap machine acts lines))
    (account n machine ++ newly_injected n machine (left n cap machine acts lines))
