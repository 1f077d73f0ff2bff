-- What a session is given, as bytes, and what that is read as. Ours.
use Rattle.std.specs.Prelude.{◌≡◌, ℕ, Ok, List, ◌++◌}
use Rattle.cm_bits.specs.Text.{lines_of}
use Rattle.cm_model.specs.Machine.{Machine}
use Rattle.cm_language.specs.Program.{ProgramText, program_of}
use Rattle.cm_image_format.specs.Whole.{read_image}
use Rattle.cm_image_format.specs.Laws.{AreBytes}
use Rattle.cm_session.specs.Session.{Session, Answered, after_line, answers, left}
use Rattle.cm_session.specs.Ends.{session_after}

-- the bytes of an image, of a program's text and of commands
pub record Inputs : Type 0 where
  pub image : List ℕ
  pub text : List ℕ
  pub commands : List ℕ

-- what image and text are read as: a machine of a cube of n dimensions whose routers have room for cap messages each,
-- and a program
pub record Setup : Type 0 where
  pub n : ℕ
  pub cap : ℕ
  pub machine : Machine
  pub program : ProgramText

-- both are accepted, and read as this
pub record AreAccepted (inputs : Inputs) (setup : Setup) : Type 0 where
  pub bytes : AreBytes inputs.image
  pub image : read_image setup.n setup.cap inputs.image ≡ Ok setup.machine
  pub program : program_of inputs.text ≡ Ok setup.program

-- of the lines of the commands these come first, and those next
pub record ComeNext (commands : List ℕ) (before lines : List (List ℕ)) : Type 0 where
  pub after : List (List ℕ)
  pub all : lines_of commands ≡ before ++ (lines ++ after)

-- ---- the session

-- where it stands once these lines are done
abbrev pub session_at : Setup → List (List ℕ) → Session
session_at setup lines = session_after setup.n setup.cap setup.program.acts setup.machine lines

-- the bytes that it has written by then
abbrev pub written_at : Setup → List (List ℕ) → List ℕ
written_at setup lines = answers setup.n setup.cap setup.machine setup.program.acts lines

-- what the next line does, and is answered
abbrev pub next_line : Setup → List (List ℕ) → List ℕ → Answered
next_line setup before line = after_line setup.n setup.cap setup.program.acts (session_at setup before) line

-- the machine that is left when all commands are done
abbrev pub machine_left : Inputs → Setup → Machine
machine_left inputs setup = left setup.n setup.cap setup.machine setup.program.acts (lines_of inputs.commands)
