-- What `cm1 weave` does from its first file to its last. Ours.
use Rattle.std.specs.Prelude.{◌≡◌, ◌⊎◌, ℕ, false, Option, Some, None, Result, Ok, Err, List, [], ◌∷◌, ◌++◌}
use Rattle.std.specs.Prelude.{option_map, string_bytes, unwrap_or}
use Rattle.std.specs.Option.{is_some}
use Rattle.cm_bits.specs.declared.ends.Failed.{Failed}
use Rattle.cm_model.specs.declared.act.Act.{Act}
use Rattle.cm_language.specs.Program.{ProgramText}
use Rattle.cm_weave.specs.declared.first.WorldFault.TheVariants as world
use Rattle.cm_weave.specs.Faults.{world_fault}
use Rattle.cm_weave.specs.First.{IsFirst}
use Rattle.cm_weave.specs.Woven.{Woven}
use Rattle.cm_array.specs.Sizes.{SizedMachine}
use Rattle.cm_tools.specs.declared.weaves.WeaveLine.{WeaveLine}
use Rattle.cm_system.specs.declared.program_fault.ProgramFault.{ProgramFault}
use Rattle.cm_system.specs.declared.program_fault.ProgramFault.TheVariants.{Read}
use Rattle.cm_system.specs.ProgramFault.{of_world}
use Rattle.cm_system.specs.Trace.{IoEvent, Opened}
use Rattle.cm_system.specs.InputFiles.{Reads, TakesBoth, RefusesBoth}
use Rattle.cm_system.specs.OutputFiles.{FinishesOutput, Readies, IsUnready}
use Rattle.cm_tools.specs.Weaving.{Outgoing, IsWoven}

-- nothing was written
abbrev pub IsSilent : Outgoing → Type 0
IsSilent out = (out.out_after ≡ out.out_before) × (out.failed ≡ false)

-- the deeds open the file of steps, if one is named
abbrev pub OpensSteps : {F P : Type 0} → Option (List ℕ) → Option F → List (IoEvent F P) → Type 0
OpensSteps None None trace = trace ≡ []
OpensSteps None (Some file) trace = ⊥
OpensSteps (Some path) (Some file) trace = trace ≡ Opened path (Ok file) ∷ []
OpensSteps (Some path) None trace = ⊥

-- the deeds are to open it, which fails
pub record FailsToOpen {F P : Type 0} (path : List ℕ) (trace : List (IoEvent F P)) : Type 0 where
  pub none : Failed
  pub did : trace ≡ Opened path (Err none) ∷ []

-- the same of a file that is named; where none is, nothing fails
abbrev pub RefusesSteps : {F P : Type 0} → Option (List ℕ) → List (IoEvent F P) → Type 0
RefusesSteps None trace = ⊥
RefusesSteps (Some path) trace = FailsToOpen path trace

-- the deeds open the file of the steps, and then make the file ready that is to be written, each if it is named
pub record OpensEnds {F P : Type 0} (line : WeaveLine) (file : Option F) (part : Option P) (trace : List (IoEvent F P))
    : Type 0 where
  pub first : List (IoEvent F P)
  pub second : List (IoEvent F P)
  pub did : trace ≡ first ++ second
  pub opens : OpensSteps (option_map string_bytes line.steps) file first
  pub ready : Readies (option_map string_bytes line.out) part second

-- the steps cannot be opened
abbrev pub OpensNoSteps : {F P : Type 0} → WeaveLine → ProgramFault → List (IoEvent F P) → Type 0
OpensNoSteps line fault trace = (fault ≡ Read) × RefusesSteps (option_map string_bytes line.steps) trace

-- they are open, and the file that is to be written cannot be made ready
pub record ReadiesNot {F P : Type 0} (line : WeaveLine) (fault : ProgramFault) (trace : List (IoEvent F P)) : Type 0 where
  pub first : List (IoEvent F P)
  pub second : List (IoEvent F P)
  pub did : trace ≡ first ++ second
  pub file : Option F
  pub opens : OpensSteps (option_map string_bytes line.steps) file first
  pub refused : IsUnready (option_map string_bytes line.out) fault second

-- the steps cannot be opened, or they are, and the file cannot be made ready
abbrev pub RefusesEnds : {F P : Type 0} → WeaveLine → ProgramFault → List (IoEvent F P) → Type 0
RefusesEnds line fault trace = OpensNoSteps line fault trace ⊎ ReadiesNot line fault trace

-- a file of an exchange cannot be opened or made ready, and nothing more is done
pub record HasNoEnds {F P : Type 0} (line : WeaveLine) (out : Outgoing) (result : Result (Unit {0}) ProgramFault)
    (trace : List (IoEvent F P)) : Type 0 where
  pub fault : ProgramFault
  pub told : result ≡ Err fault
  pub refused : RefusesEnds line fault trace
  pub silent : IsSilent out

-- the world is stepped by the file of steps, if one is named, or by itself; then standard output goes out, and the file
-- is written, if one was made ready
pub record Exchanges {F P : Type 0} (reads : Reads F) (line : WeaveLine) (n cap : ℕ) (woven : Woven) (out : Outgoing)
    (result : Result (Unit {0}) ProgramFault) (trace : List (IoEvent F P)) : Type 0 where
  pub first : List (IoEvent F P)
  pub second : List (IoEvent F P)
  pub did : trace ≡ first ++ second
  pub file : Option F
  pub part : Option P
  pub opens : OpensEnds line file part first
  pub ran : Result (Option (List ℕ)) ProgramFault
  pub is : IsWoven reads n cap woven file (is_some part) out ran
  pub closes : FinishesOutput part out.out_after ran result second

-- what is done with a world
abbrev pub WeavesWorld : {F P : Type 0} → Reads F → WeaveLine → ℕ → ℕ → Woven → Outgoing
    → Result (Unit {0}) ProgramFault → List (IoEvent F P) → Type 0
WeavesWorld reads line n cap woven out result trace =
    HasNoEnds line out result trace ⊎ Exchanges reads line n cap woven out result trace

-- there is no world of the machine and the program: its fault is told, or want of memory, and nothing is done
pub record HasNoWorld {F P : Type 0} (line : WeaveLine) (start : SizedMachine) (acts : List Act) (out : Outgoing)
    (result : Result (Unit {0}) ProgramFault) (trace : List (IoEvent F P)) : Type 0 where
  pub told : result
      ≡ Err (of_world (unwrap_or (world_fault start.n line.split start.machine.clock acts) world.Memory))
  pub did : trace ≡ []
  pub silent : IsSilent out

-- there is one, which begins as it should
pub record HasWorld {F P : Type 0} (reads : Reads F) (line : WeaveLine) (start : SizedMachine) (acts : List Act)
    (out : Outgoing) (result : Result (Unit {0}) ProgramFault) (trace : List (IoEvent F P)) : Type 0 where
  pub woven : Woven
  pub begins : IsFirst start.n start.cap line.split start.machine acts woven
  pub faultless : world_fault start.n line.split start.machine.clock acts ≡ None
  pub then : WeavesWorld reads line start.n start.cap woven out result trace

-- what is done once the image and the text are taken
abbrev pub WeavesAt : {F P : Type 0} → Reads F → WeaveLine → SizedMachine → List Act → Outgoing
    → Result (Unit {0}) ProgramFault → List (IoEvent F P) → Type 0
WeavesAt reads line start acts out result trace =
    HasNoWorld line start acts out result trace ⊎ HasWorld reads line start acts out result trace

-- no exchange begins: the image or the text is refused
pub record WeavesNothing {F P : Type 0} (reads : Reads F) (line : WeaveLine) (out : Outgoing)
    (result : Result (Unit {0}) ProgramFault) (trace : List (IoEvent F P)) : Type 0 where
  pub fault : ProgramFault
  pub told : result ≡ Err fault
  pub refused : RefusesBoth reads (string_bytes line.image) (string_bytes line.program) fault trace
  pub silent : IsSilent out

-- image and text are taken, and the exchange is stepped
pub record WeavesFiles {F P : Type 0} (reads : Reads F) (line : WeaveLine) (out : Outgoing)
    (result : Result (Unit {0}) ProgramFault) (trace : List (IoEvent F P)) : Type 0 where
  pub first : List (IoEvent F P)
  pub second : List (IoEvent F P)
  pub did : trace ≡ first ++ second
  pub start : SizedMachine
  pub program : ProgramText
  pub both : TakesBoth reads (string_bytes line.image) (string_bytes line.program) start program first
  pub then : WeavesAt reads line start program.acts out result second

-- what `cm1 weave` does
abbrev pub IsWeaveTrace : {F P : Type 0} → Reads F → WeaveLine → Outgoing → Result (Unit {0}) ProgramFault
    → List (IoEvent F P) → Type 0
IsWeaveTrace reads line out result trace =
    WeavesNothing reads line out result trace ⊎ WeavesFiles reads line out result trace
