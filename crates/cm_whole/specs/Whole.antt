-- One law of the whole, in the three clauses of the headline: from the bytes that a session is given. Ours.
use Rattle.std.specs.Prelude.{ℕ, ◌+◌, ◌<◌, ◌≤◌, ◌^◌, ◌⊎◌, List, [], ◌∷◌, ◌++◌, length}
use Rattle.cm_bits.specs.Text.{lines_of}
use Rattle.cm_model.specs.declared.message.Message.{Message}
use Rattle.cm_model.specs.declared.message.Event.TheVariants.{Delivered}
use Rattle.cm_model.specs.Array.{nth_or_nil}
use Rattle.cm_model.specs.Account.{Triple}
use Rattle.cm_model.specs.Deliveries.{Stands, IsInjected, IsInOnePlace, IsAt}
use Rattle.cm_language.specs.declared.macros.Macro.{Macro}
use Rattle.cm_language.specs.Acts.{acts_of}
use Rattle.cm_language.specs.Program.{Reading}
use Rattle.cm_language.specs.Places.{IsMacroOf}
use Rattle.cm_session.specs.Whole.{HaveNoPoke, HasRun, HasDoneMacro, IsDeliveryIn}
use Rattle.cm_whole.specs.Inputs.{Inputs, Setup, AreAccepted, ComeNext, session_at, machine_left}
use Rattle.cm_whole.specs.Acts.{IsLineDone}

-- these lines come next, and none of them puts a bit into the machine
pub record ComeWithoutPoke (inputs : Inputs) (setup : Setup) (before lines : List (List ℕ)) : Type 0 where
  pub next : ComeNext inputs.commands before lines
  pub pokeless : HaveNoPoke setup.n (length setup.program.acts) lines

-- a line of the text says this macro, and these lines of commands run it whole, without a poke: before them none of
-- its acts was run, behind them all are
pub record RunWhole (inputs : Inputs) (setup : Setup) (r : Reading) (m : Macro) (before lines : List (List ℕ))
    : Type 0 where
  pub says : IsMacroOf inputs.text r m
  pub come : ComeWithoutPoke inputs setup before lines
  pub begins : (session_at setup before).position ≤ length r.acts
  pub ends : length r.acts + length (acts_of m r.context) ≤ (session_at setup (before ++ lines)).position

-- a session of these inputs is as the headline says
pub record IsAsWritten (inputs : Inputs) (setup : Setup) : Type 0 where
  -- what it writes, line by line, and what each line does: acts go one after another
  pub lines : (before : List (List ℕ)) (line : List ℕ) → ComeNext inputs.commands before (line ∷ [])
      → IsLineDone setup before line
  -- so lines without a poke leave the machine after the acts between the two places where the session stands
  pub acts : (before lines : List (List ℕ)) → ComeWithoutPoke inputs setup before lines
      → HasRun setup.n setup.cap setup.program.acts (session_at setup before) (session_at setup (before ++ lines))
  -- every macro computes its whole-number function in each selected processor
  pub macros : (r : Reading) (m : Macro) (before lines : List (List ℕ)) → RunWhole inputs setup r m before lines
      → HasDoneMacro setup.n setup.cap setup.program.acts (session_at setup before)
      (session_at setup (before ++ lines)) (length r.acts) m r.context
  -- every message of the image, and every one that a log tells was injected, is in one place: it stands in exactly one
  -- router, or was delivered once, unaltered, to its addressed processor
  pub messages : (message : Triple) → Stands setup.n setup.machine message
      ⊎ IsInjected setup.n (machine_left inputs setup) message → IsInOnePlace setup.n (machine_left inputs setup) message
  -- and every delivery that a log tells of was one of such a message, at one moment of a petit cycle that a line ran
  pub deliveries : (c i d : ℕ) (m : Message) → c < 2 ^ setup.n
      → IsAt (nth_or_nil (machine_left inputs setup).logs c) i (Delivered d m)
      → IsDeliveryIn setup.n setup.cap setup.machine setup.program.acts (lines_of inputs.commands) c i d m

-- for all bytes of an image and of a text that are accepted, and all bytes of commands
abbrev pub SessionsAreAsWritten : Type 0
SessionsAreAsWritten = (inputs : Inputs) (setup : Setup) → AreAccepted inputs setup → IsAsWritten inputs setup
