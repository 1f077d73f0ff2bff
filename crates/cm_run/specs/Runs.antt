-- What `cm1 run` does from its first file to its last. Ours.
use Rattle.std.specs.Prelude.{◌≡◌, ◌+◌, ◌⊎◌, ◌↔◌, Bool, true, Option, IfSome, IsErrOf, Result, Ok}
use Rattle.std.specs.Prelude.{Err, ℕ, List, ◌++◌}
use Rattle.std.specs.Option.{is_some}
use Rattle.cm_model.specs.declared.act.Act.{Act}
use Rattle.cm_language.specs.Program.{ProgramText}
use Rattle.cm_session.specs.Reading.{ConsumesAtMost, PIECE_LIMIT}
use Rattle.cm_session.specs.Ends.{COMMANDS_LIMIT}
use Rattle.cm_run.specs.declared.files.RunLine.{RunLine}
use Rattle.cm_system.specs.declared.program_fault.ProgramFault.{ProgramFault}
use Rattle.cm_system.specs.declared.program_fault.ProgramFault.TheVariants.{Read, Write, NoThread}
use Rattle.cm_array.specs.Sizes.{SizedMachine}
use Rattle.cm_run.specs.Run.{HasLeft, HasLeftForSome, HasAbortedSession, HasAbortedForSome}
use Rattle.cm_system.specs.Trace.{IoEvent}
use Rattle.cm_system.specs.InputFiles.{Reads}
use Rattle.cm_system.specs.OutputFiles.{FinishesOutput}
use Rattle.cm_system.specs.Streams.{Streams, IsUntouched}
use Rattle.cm_run.specs.Files.{BeginsFiles, RefusesFiles}

-- how a session ends that begins here, with these acts
abbrev pub EndsSession : SizedMachine → List Act → Streams → Bool → Result (Option (List ℕ)) ProgramFault → Type 0
EndsSession start acts streams keeps (Ok kept) =
    IfSome streams.lines (λ lines. HasLeft start acts lines streams.rest streams.out_before streams.out_after keeps kept)
EndsSession start acts streams keeps (Err fault) =
    IfSome streams.lines (λ lines. HasAbortedSession start acts lines streams.rest streams.out_before streams.out_after keeps fault)

-- the same of some text, whatever the commands tell of theirs
abbrev pub HearsSession : SizedMachine → List Act → Streams → Bool → Result (Option (List ℕ)) ProgramFault → Type 0
HearsSession start acts streams keeps (Ok kept) =
    HasLeftForSome start acts streams.lines streams.rest streams.out_before streams.out_after keeps kept
HearsSession start acts streams keeps (Err fault) =
    HasAbortedForSome start acts streams.lines streams.rest streams.out_before streams.out_after keeps fault

-- a session that begins here, from standard input to standard output
pub record IsSession (start : SizedMachine) (acts : List Act) (streams : Streams) (keeps : Bool)
    (ran : Result (Option (List ℕ)) ProgramFault) : Type 0 where
  pub ends : EndsSession start acts streams keeps ran
  pub heard : HearsSession start acts streams keeps ran
  pub within : ConsumesAtMost (COMMANDS_LIMIT + PIECE_LIMIT) streams.lines streams.rest
  pub read : (streams.read_failed ≡ true) ↔ IsErrOf ran Read
  pub write : (streams.write_failed ≡ true) ↔ IsErrOf ran Write

-- the deeds once a session that begins here has ended: standard output goes out, and the file is written, if one was
-- made ready. It wants a thread only where this is so
pub record RunsFrom {F P : Type 0} (start : SizedMachine) (acts : List Act) (WantsThread : Type 0) (streams : Streams)
    (part : Option P) (result : Result (Unit {0}) ProgramFault) (trace : List (IoEvent F P)) : Type 0 where
  pub ran : Result (Option (List ℕ)) ProgramFault
  pub session : IsSession start acts streams (is_some part) ran
  pub threads : IsErrOf ran NoThread → WantsThread
  pub closes : FinishesOutput part streams.out_after ran result trace

-- no session begins
pub record BeginsNot {F P : Type 0} (reads : Reads F) (line : RunLine) (streams : Streams)
    (result : Result (Unit {0}) ProgramFault) (trace : List (IoEvent F P)) : Type 0 where
  pub fault : ProgramFault
  pub told : result ≡ Err fault
  pub refused : RefusesFiles reads line fault trace
  pub untouched : IsUntouched streams

-- a session begins, and ends, which wants no thread where there is one worker; then standard output goes out, and the
-- file is written
pub record IsFilesTrace {F P : Type 0} (reads : Reads F) (line : RunLine) (streams : Streams)
    (result : Result (Unit {0}) ProgramFault) (trace : List (IoEvent F P)) : Type 0 where
  pub first : List (IoEvent F P)
  pub second : List (IoEvent F P)
  pub did : trace ≡ first ++ second
  pub start : SizedMachine
  pub program : ProgramText
  pub part : Option P
  pub begins : BeginsFiles reads line start program part first
  pub ran : Result (Option (List ℕ)) ProgramFault
  pub session : IsSession start program.acts streams (is_some part) ran
  pub threads : line.sharing.workers ≡ 1 → ¬ IsErrOf ran NoThread
  pub closes : FinishesOutput part streams.out_after ran result second

-- what `cm1 run` does
abbrev pub IsRunTrace : {F P : Type 0} → Reads F → RunLine → Streams → Result (Unit {0}) ProgramFault → List (IoEvent F P)
    → Type 0
IsRunTrace reads line streams result trace =
    BeginsNot reads line streams result trace ⊎ IsFilesTrace reads line streams result trace
