-- What a line of commands does to the machine: acts one after another, or one bit, or nothing. Ours.
use Rattle.std.specs.Prelude.{◌≡◌, ℕ, ◌-◌, ◌≤◌, ◌⊎◌, Bool, true, Option, Some, Result, Ok, List, [], ◌∷◌}
use Rattle.std.specs.Prelude.{◌++◌, length, slice_index_or}
use Rattle.std.specs.List.{flat_map, range_with_len}
use Rattle.cm_bits.specs.Text.{words_of}
use Rattle.cm_model.specs.declared.act.Act.{Act}
use Rattle.cm_model.specs.declared.act.Act.TheVariants.{Cycle}
use Rattle.cm_model.specs.Machine.{run_of}
use Rattle.cm_array.specs.Pokes.{machine_with_memory_bit, machine_with_flag}
use Rattle.cm_session.specs.declared.command.Command.{Command}
use Rattle.cm_session.specs.declared.command.Command.TheVariants as command
use Rattle.cm_session.specs.declared.command.Refusal.{Refusal}
use Rattle.cm_session.specs.Commands.{command_of}
use Rattle.cm_session.specs.Answer.{CLOCK, at_line, end_line, refused_line}
use Rattle.cm_session.specs.Session.{Session, Answered, lacks_room, answer_of_act, everywhere, at_breaks}
use Rattle.cm_session.specs.Whole.{acts_between}
use Rattle.cm_whole.specs.Inputs.{Setup, session_at, written_at, next_line}

-- the act at a place of a program
abbrev pub act_at : List Act → ℕ → Act
act_at acts place = slice_index_or acts place Cycle

-- a session that has come to a later place: the acts from where it stood up to there were run, one after another
abbrev pub come_to : ℕ → ℕ → List Act → Session → ℕ → Session
come_to n cap acts session place = record session {
  machine = run_of n cap session.machine (acts_between session.position place acts);
  position = place;
}

-- what the act at a place tells: a look at the wire that of the machine after all acts before it, where looks are told
abbrev pub answer_at : ℕ → ℕ → List Act → Session → ℕ → List ℕ
answer_at n cap acts session place = answer_of_act (come_to n cap acts session place) (act_at acts place)

-- what the acts tell from one place to a later one, where a session had stood before
abbrev pub answers_between : ℕ → ℕ → List Act → Session → ℕ → ℕ → List ℕ
answers_between n cap acts session from to = flat_map (answer_at n cap acts session) (range_with_len from (to - from))

-- why a session stops where it stands, and what is told then: no acts are left; it was to stop at this place; the
-- counter has no room for the petit cycle that comes next
abbrev pub StopsWith : (ℕ → Bool) → List Act → Session → List ℕ → Type 0
StopsWith stops acts session answer =
    ((length acts ≤ session.position) × (answer ≡ end_line))
    ⊎ (((stops session.position ≡ true) × (answer ≡ at_line session.position))
    ⊎ ((lacks_room session.machine.clock (act_at acts session.position) ≡ true) × (answer ≡ refused_line CLOCK)))

-- a session goes on from one place to a later one: it has run the acts between, one after another, and nothing else has
-- changed; it is answered what these acts tell, and why it stops
pub record GoesOn (n cap : ℕ) (acts : List Act) (stops : ℕ → Bool) (before : Session) (after : Answered) : Type 0 where
  pub to : ℕ
  pub forward : before.position ≤ to
  pub session_is : after.session ≡ come_to n cap acts before to
  pub last : List ℕ
  pub stops_with : StopsWith stops acts after.session last
  pub answer_is : after.answer ≡ answers_between n cap acts before before.position to ++ last

-- what a command does: `step` goes on by an act and `run` to a breakpoint; a poke puts one bit; all others leave the
-- machine as it is
abbrev pub Does : ℕ → ℕ → List Act → Session → Answered → Command → Type 0
Does n cap acts before after command.Step = GoesOn n cap acts everywhere before after
Does n cap acts before after command.Run = GoesOn n cap acts (at_breaks before.breaks) before after
Does n cap acts before after (command.Poke place address b) =
    after.session.machine ≡ machine_with_memory_bit before.machine place.chip place.proc address b
Does n cap acts before after (command.PokeFlag place number b) =
    after.session.machine ≡ machine_with_flag before.machine place.chip place.proc number b
Does n cap acts before after _ = after.session.machine ≡ before.machine

-- what a line does that was read so: one without words, and one that is refused, does nothing
abbrev pub DoesAsRead : ℕ → ℕ → List Act → Session → Answered → Result (Option Command) Refusal → Type 0
DoesAsRead n cap acts before after (Ok (Some asked)) = Does n cap acts before after asked
DoesAsRead n cap acts before after _ = after.session ≡ before

-- a line that comes next is done: its answer is written behind what was written, and its command does what it is for
pub record IsLineDone (setup : Setup) (before : List (List ℕ)) (line : List ℕ) : Type 0 where
  pub session_is : session_at setup (before ++ line ∷ []) ≡ (next_line setup before line).session
  pub written : written_at setup (before ++ line ∷ []) ≡ written_at setup before ++ (next_line setup before line).answer
  pub does : DoesAsRead setup.n setup.cap setup.program.acts (session_at setup before) (next_line setup before line)
      (command_of setup.n (length setup.program.acts) (words_of line))
