-- Stretches: acts that a session hands to its runner at once, and the law that it answers the same. Ours.
use Rattle.std.specs.Prelude.{◌≡◌, ℕ, ◌+◌, ◌^◌, ◌<◌, ◌&&◌, Bool, true, false, if◌then◌else◌, List, ◌∷◌}
use Rattle.std.specs.Prelude.{◌++◌, length, slice_index_or}
use Rattle.cm_model.specs.declared.act.Act.{Act}
use Rattle.cm_model.specs.declared.act.Act.TheVariants.{Nano, Sense, Cycle}
use Rattle.cm_model.specs.Machine.{run_of}
use Rattle.cm_array.specs.Acts.{cycles_in}
use Rattle.cm_session.specs.Answer.{at_line}
use Rattle.cm_session.specs.Session.{Session, Answered, answered_with, preceded_by, answer_of_act, has_acts, going}

-- the act is a look at the wire
abbrev pub is_look : Act → Bool
is_look Sense = true
is_look Cycle = false
is_look (Nano nano) = false

-- the act at an index is a look
abbrev pub looks_at : List Act → ℕ → Bool
looks_at acts i = is_look (slice_index_or acts i Cycle)

-- from a position and a count of petit cycles on: after the first act none is a look that is told, none is at a place
-- where the session stops, and the counter has room for all
pub record IsStretch (stops : ℕ → Bool) (report : Bool) (position clock : ℕ) (acts : List Act) : Type 0 where
  pub silent : (i : ℕ) → 0 < i → i < length acts → (report && looks_at acts i) ≡ false
  pub goes : (i : ℕ) → 0 < i → i < length acts → stops (position + i) ≡ false
  pub room : clock + cycles_in acts < 2 ^ 63

-- the session so many acts on
abbrev pub acts_on : ℕ → ℕ → Session → List Act → Session
acts_on n cap session acts =
    record session { machine = run_of n cap session.machine acts; position = session.position + length acts }

-- where the session has come to a place: it stops there, or goes on
abbrev pub arrived : ℕ → ℕ → (ℕ → Bool) → Session → List Act → Answered
arrived n cap stops session acts =
    if stops session.position && has_acts acts then answered_with session (at_line session.position)
    else going n cap stops session acts

-- acts that begin with a stretch are answered as the stretch is at once: what its first act tells,
-- and then what comes after
abbrev pub StretchesAreAnsweredAlike : Type 0
StretchesAreAnsweredAlike = (n cap : ℕ) (stops : ℕ → Bool) (session : Session) (first : Act) (acts more : List Act)
    → IsStretch stops session.report session.position session.machine.clock (first ∷ acts)
    → going n cap stops session ((first ∷ acts) ++ more)
    ≡ preceded_by (answer_of_act session first) (arrived n cap stops (acts_on n cap session (first ∷ acts)) more)
