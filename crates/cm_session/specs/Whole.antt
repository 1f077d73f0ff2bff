-- Laws of whole sessions, each the contract of a function of its name: the acts that lines run, the macros among them,
-- and the messages. Ours.
use Rattle.std.specs.Prelude.{◌≡◌, ℕ, ◌+◌, ◌-◌, ◌<◌, ◌≤◌, ◌^◌, ◌⊎◌, Bool, true, false, Option, Some, None, Result}
use Rattle.std.specs.Prelude.{Ok, Err, List, [], ◌∷◌, ◌++◌, length, take, drop}
use Rattle.cm_bits.specs.Text.{words_of}
use Rattle.cm_model.specs.declared.act.Act.{Act}
use Rattle.cm_model.specs.declared.message.Message.{Message}
use Rattle.cm_model.specs.declared.message.Event.TheVariants.{Delivered}
use Rattle.cm_model.specs.Array.{nth_or_nil}
use Rattle.cm_model.specs.Machine.{Machine, run_of}
use Rattle.cm_model.specs.Account.{Triple}
use Rattle.cm_model.specs.Keeping.{IsMachine}
use Rattle.cm_model.specs.Deliveries.{Stands, IsInjected, IsInOnePlace, IsAt, IsDeliveryOf}
use Rattle.cm_language.specs.declared.macros.Macro.{Macro}
use Rattle.cm_language.specs.declared.macros.Context.{Context}
use Rattle.cm_language.specs.Acts.{acts_of}
use Rattle.cm_language.specs.Laws.{machine_after_macro}
use Rattle.cm_language.specs.Places.{MacroStandsAt}
use Rattle.cm_session.specs.declared.command.Command.{Command}
use Rattle.cm_session.specs.declared.command.Command.TheVariants as command
use Rattle.cm_session.specs.declared.command.Refusal.{Refusal}
use Rattle.cm_session.specs.Commands.{command_of}
use Rattle.cm_session.specs.Session.{Session, after_line, left}
use Rattle.cm_session.specs.Ends.{session_after}

-- what every machine keeps, the machine that a session leaves keeps
abbrev pub SessionsKeepMachines : Type 0
SessionsKeepMachines = (n cap : ℕ) (start : Machine) (acts : List Act) (lines : List (List ℕ)) → IsMachine n cap start
    → IsMachine n cap (left n cap start acts lines)

-- ---- the acts that lines run

-- the acts of a program from one place to a later one
abbrev pub acts_between : ℕ → ℕ → List Act → List Act
acts_between from to acts = take (to - from) (drop from acts)

-- the command puts a bit into the machine
abbrev pub is_poke : Command → Bool
is_poke command.Step = false
is_poke command.Run = false
is_poke (command.Break i) = false
is_poke (command.Clear i) = false
is_poke command.WireOn = false
is_poke command.WireOff = false
is_poke command.WireShow = false
is_poke (command.Field place bits) = false
is_poke (command.Flag place number) = false
is_poke (command.Poke place address b) = true
is_poke (command.PokeFlag place number b) = true
is_poke (command.Buffer c) = false
is_poke (command.Find tag) = false
is_poke (command.Events c) = false
is_poke command.Rule = false

-- what a line was read as does so
abbrev pub asks_poke : Result (Option Command) Refusal → Bool
asks_poke (Err refusal) = false
asks_poke (Ok None) = false
asks_poke (Ok (Some it)) = is_poke it

-- no line asks for a poke, on a cube of n dimensions with a program of so many acts
abbrev pub HaveNoPoke : ℕ → ℕ → List (List ℕ) → Type 0
HaveNoPoke n count [] = Unit {0}
HaveNoPoke n count (line ∷ lines) = (asks_poke (command_of n count (words_of line)) ≡ false) × HaveNoPoke n count lines

-- from one session to a later one the acts between their two places were run, one after another, and nothing else
-- was done to the machine
pub record HasRun (n cap : ℕ) (acts : List Act) (before after : Session) : Type 0 where
  pub forward : before.position ≤ after.position
  pub machine_is : after.machine ≡ run_of n cap before.machine (acts_between before.position after.position acts)

-- so it is where no poke fell between
abbrev pub LinesRunTheirActs : Type 0
LinesRunTheirActs = (n cap : ℕ) (start : Machine) (acts : List Act) (done lines : List (List ℕ)) → IsMachine n cap start
    → HaveNoPoke n (length acts) lines →
    HasRun n cap acts (session_after n cap acts start done) (session_after n cap acts start (done ++ lines))

-- ---- macros

-- a session came from before the acts of a macro, the first of which is at this place, to behind them: the acts before
-- them were run, then every selected processor had the macro's whole-number assignment, all at once, and then the
-- acts behind them were run; where it stood at the first and came to the end of the last, that is all
pub record HasDoneMacro (n cap : ℕ) (acts : List Act) (before after : Session) (at : ℕ) (m : Macro) (context : Context)
    : Type 0 where
  pub around : after.machine
      ≡ run_of n cap (machine_after_macro n m context
      (run_of n cap before.machine (acts_between before.position at acts)))
      (acts_between (at + length (acts_of m context)) after.position acts)
  pub alone : before.position ≡ at → after.position ≡ at + length (acts_of m context) →
      after.machine ≡ machine_after_macro n m context before.machine

-- so it is of each macro whose acts stand in the program, where all of them were run and no poke fell between
abbrev pub SessionsDoMacros : Type 0
SessionsDoMacros = (n cap : ℕ) (start : Machine) (acts : List Act) (done lines : List (List ℕ)) (at : ℕ) (m : Macro)
    (context : Context) → IsMachine n cap start → HaveNoPoke n (length acts) lines → MacroStandsAt acts at m context
    → (session_after n cap acts start done).position ≤ at
    → at + length (acts_of m context) ≤ (session_after n cap acts start (done ++ lines)).position →
    HasDoneMacro n cap acts (session_after n cap acts start done) (session_after n cap acts start (done ++ lines)) at m
    context

-- ---- messages

-- after a session each message that stood in a router before, or that a log tells was injected, stands in exactly one
-- router or was delivered once, unaltered, to the processor that it is for
abbrev pub SessionsKeepMessages : Type 0
SessionsKeepMessages = (n cap : ℕ) (start : Machine) (acts : List Act) (lines : List (List ℕ)) (line : Triple)
    → IsMachine n cap start → Stands n start line ⊎ IsInjected n (left n cap start acts lines) line →
    IsInOnePlace n (left n cap start acts lines) line

-- the acts that a line runs
abbrev pub acts_run : ℕ → ℕ → List Act → Session → List ℕ → List Act
acts_run n cap acts session line =
    acts_between session.position (after_line n cap acts session line).session.position acts

-- event i of chip c's log, which tells of a delivery of m at d, was there in a petit cycle that one of the lines ran
pub record IsDeliveryIn (n cap : ℕ) (start : Machine) (acts : List Act) (lines : List (List ℕ)) (c i d : ℕ)
    (m : Message) : Type 0 where
  pub done : List (List ℕ)
  pub line : List ℕ
  pub more : List (List ℕ)
  pub lines_are : lines ≡ done ++ line ∷ more
  pub delivery : IsDeliveryOf n cap start (session_after n cap acts start done).machine
      (acts_run n cap acts (session_after n cap acts start done) line) c i d m

-- each delivery that the logs tell of since a session began
abbrev pub SessionsDeliver : Type 0
SessionsDeliver = (n cap : ℕ) (start : Machine) (acts : List Act) (lines : List (List ℕ)) (c i d : ℕ) (m : Message)
    → IsMachine n cap start → c < 2 ^ n → length (nth_or_nil start.logs c) ≤ i
    → IsAt (nth_or_nil (left n cap start acts lines).logs c) i (Delivered d m) →
    IsDeliveryIn n cap start acts lines c i d m
