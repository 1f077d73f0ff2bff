-- What `cm1 run` does before its session begins. Ours.
use Rattle.std.specs.Prelude.{◌≡◌, ◌⊎◌, ℕ, Option, Some, None, List, [], ◌++◌, option_map, string_bytes}
use Rattle.cm_language.specs.Program.{ProgramText}
use Rattle.cm_array.specs.Sizes.{SizedMachine}
use Rattle.cm_run.specs.declared.files.RunLine.{RunLine}
use Rattle.cm_system.specs.declared.program_fault.ProgramFault.{ProgramFault}
use Rattle.cm_run.specs.Sharing.{sharing_fault}
use Rattle.cm_system.specs.Trace.{IoEvent}
use Rattle.cm_system.specs.InputFiles.{Reads, TakesBoth, RefusesBoth}
use Rattle.cm_system.specs.OutputFiles.{Readies, IsUnready}

-- the deeds take the files of the image and of the text
abbrev pub TakesFiles : {F P : Type 0} → Reads F → RunLine → SizedMachine → ProgramText → List (IoEvent F P) → Type 0
TakesFiles reads line start program trace =
    TakesBoth reads (string_bytes line.image) (string_bytes line.program) start program trace

-- they take both, the machine can be shared out so, and then they make the file ready that is to be written
pub record BeginsFiles {F P : Type 0} (reads : Reads F) (line : RunLine) (start : SizedMachine) (program : ProgramText)
    (part : Option P) (trace : List (IoEvent F P)) : Type 0 where
  pub first : List (IoEvent F P)
  pub second : List (IoEvent F P)
  pub did : trace ≡ first ++ second
  pub both : TakesFiles reads line start program first
  pub shared : sharing_fault start.n line.sharing ≡ None
  pub ready : Readies (option_map string_bytes line.out) part second

-- both are taken, and the machine cannot be shared out so
pub record RefusesSharing {F P : Type 0} (reads : Reads F) (line : RunLine) (fault : ProgramFault)
    (trace : List (IoEvent F P)) : Type 0 where
  pub start : SizedMachine
  pub program : ProgramText
  pub both : TakesFiles reads line start program trace
  pub refused : sharing_fault start.n line.sharing ≡ Some fault

-- both are taken, the machine can be shared out so, and the file that is to be written cannot be made ready
pub record RefusesOut {F P : Type 0} (reads : Reads F) (line : RunLine) (fault : ProgramFault)
    (trace : List (IoEvent F P)) : Type 0 where
  pub first : List (IoEvent F P)
  pub second : List (IoEvent F P)
  pub did : trace ≡ first ++ second
  pub start : SizedMachine
  pub program : ProgramText
  pub both : TakesFiles reads line start program first
  pub shared : sharing_fault start.n line.sharing ≡ None
  pub refused : IsUnready (option_map string_bytes line.out) fault second

-- why no session begins, and the deeds until then: nothing more is touched
abbrev pub RefusesFiles : {F P : Type 0} → Reads F → RunLine → ProgramFault → List (IoEvent F P) → Type 0
RefusesFiles reads line fault trace =
    RefusesBoth reads (string_bytes line.image) (string_bytes line.program) fault trace
    ⊎ (RefusesSharing reads line fault trace ⊎ RefusesOut reads line fault trace)

-- both are taken, and nothing is done as the machine, of 2^n chips, cannot be shared out so; or it can, and the deeds
-- are that the file that is to be written cannot be made ready
abbrev pub RefusesTaken : {F P : Type 0} → ℕ → RunLine → ProgramFault → List (IoEvent F P) → Type 0
RefusesTaken n line fault trace =
    ((trace ≡ []) × (sharing_fault n line.sharing ≡ Some fault))
    ⊎ ((sharing_fault n line.sharing ≡ None) × IsUnready (option_map string_bytes line.out) fault trace)
