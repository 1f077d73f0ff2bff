-- What `cm1 run` does with an image, a program and commands: one session on the machine of the image. Ours.
use Rattle.std.specs.Prelude.{◌≡◌, ℕ, Bool, true, false, Option, Some, Result, Ok, Err, OnOk, List, []}
use Rattle.std.specs.Io.KnownBytes.{Consumes, IsAtEnd}
use Rattle.cm_model.specs.declared.act.Act.{Act}
use Rattle.cm_model.specs.Machine.{Machine}
use Rattle.cm_session.specs.declared.fault.SessionFault.{SessionFault}
use Rattle.cm_session.specs.Ends.{Ends}
use Rattle.cm_system.specs.declared.program_fault.ProgramFault.{ProgramFault}
use Rattle.cm_system.specs.declared.program_fault.ProgramFault.TheVariants.{Memory}
use Rattle.cm_system.specs.OutputFiles.{IsImageKept}
use Rattle.cm_system.specs.ProgramFault.{of_session}
use Rattle.cm_array.specs.Sizes.{SizedMachine}

-- all commands were answered, and this image is kept of the machine that they left
pub record HasLeft (start : SizedMachine) (acts : List Act) (lines : List ℕ) (rest out_before out_after : Option (List ℕ))
    (keeps : Bool) (image : Option (List ℕ)) : Type 0 where
  pub after : Machine
  pub ends : Ends start.n start.cap acts lines rest start.machine out_before after out_after (Ok tt)
  pub kept : IsImageKept start.n start.cap after keeps image

-- the commands gave some text to their end, all of whose lines were answered, and this image is kept of the machine
-- that they left: this can be said of commands that do not tell their bytes
pub record HasLeftForSome (start : SizedMachine) (acts : List Act) (source rest out_before out_after : Option (List ℕ))
    (keeps : Bool)
    (image : Option (List ℕ)) : Type 0 where
  pub lines : List ℕ
  pub read : Consumes source rest lines
  pub end : IsAtEnd rest
  pub run : HasLeft start acts lines (Some []) out_before out_after keeps image

-- a session that ended so ends the program with this fault: its own, or want of memory for an image that is to be kept
abbrev pub IsReportedAs : Bool → Result (Unit {0}) SessionFault → ProgramFault → Type 0
IsReportedAs true (Ok done) fault = fault ≡ Memory
IsReportedAs false (Ok done) fault = ⊥
IsReportedAs keeps (Err own) fault = fault ≡ of_session own

-- the session broke off
pub record HasAbortedSession (start : SizedMachine) (acts : List Act) (lines : List ℕ) (rest out_before out_after : Option (List ℕ))
    (keeps : Bool) (fault : ProgramFault) : Type 0 where
  pub after : Machine
  pub result : Result (Unit {0}) SessionFault
  pub ends : Ends start.n start.cap acts lines rest start.machine out_before after out_after result
  pub told : IsReportedAs keeps result fault

-- the commands gave some text, and it broke off so as of that text and nothing more; if it is the image that memory was
-- wanting for, the text is all that they had
pub record HasAbortedForSome (start : SizedMachine) (acts : List Act) (source rest out_before out_after : Option (List ℕ))
    (keeps : Bool) (fault : ProgramFault) : Type 0 where
  pub lines : List ℕ
  pub read : Consumes source rest lines
  pub run : HasAbortedSession start acts lines (Some []) out_before out_after keeps fault
  pub end : OnOk run.result (IsAtEnd rest)
