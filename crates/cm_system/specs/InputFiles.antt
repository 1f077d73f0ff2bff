-- Files that are read to their end: which one, how much of it at most, and what came of it. Ours.
use Rattle.std.specs.Prelude.{◌≡◌, ◌↔◌, ◌⊎◌, ℕ, ◌≤◌, Bool, true, Option, IsErrOf, Result, Ok, Err, Vec, List}
use Rattle.std.specs.Prelude.{[], ◌∷◌, ◌++◌, length}
use Rattle.std.specs.declared.alloc.Global.{Global}
use Rattle.std.specs.Io.KnownBytes.{Consumes, IsAtEnd}
use Rattle.cm_bits.specs.declared.ends.Failed.{Failed}
use Rattle.cm_language.specs.Program.{ProgramText, program_of, IsFaultOf}
use Rattle.cm_image_load.specs.declared.pieces.SourceFault.TheVariants as source
use Rattle.cm_image_load.specs.Pieces.{GivesRest}
use Rattle.cm_sizes.specs.declared.opening.OpenSourceFault.{OpenSourceFault}
use Rattle.cm_sizes.specs.declared.opening.OpenSourceFault.TheVariants.{Source}
use Rattle.cm_array.specs.Sizes.{SizedMachine}
use Rattle.cm_sizes.specs.Opening.{image_opened}
use Rattle.cm_sizes.specs.ImageSources.{IMAGE_LIMIT, IsUnopenedSource}
use Rattle.cm_system.specs.declared.read_all.TakeFault.{TakeFault}
use Rattle.cm_system.specs.declared.read_all.TakeFault.TheVariants.{Read, TooMuch, Memory}
use Rattle.cm_system.specs.declared.program_fault.ProgramFault.{ProgramFault}
use Rattle.cm_system.specs.declared.program_fault.ProgramFault.TheVariants.{Text, Read as unread}
use Rattle.cm_system.specs.ProgramFault.{of_open, of_take}
use Rattle.cm_system.specs.ReadAll.{ConsumesAtMost, ConsumesBeyond}
use Rattle.cm_system.specs.Trace.{IoEvent, Opened}

-- the most bytes of a program text
abbrev pub PROGRAM_LIMIT : ℕ
PROGRAM_LIMIT = 16777216

-- how a kind of files tells of its bytes: those still to come, where they are known, and whether a read has failed
pub record Reads (F : Type 0) : Type 0 where
  pub left : F → Option (List ℕ)
  pub has_failed : F → Bool

-- the same of its parts
abbrev pub reads_by : {F : Type 0} → (F → Option (List ℕ)) → (F → Bool) → Reads F
reads_by left has_failed = record { left = left; has_failed = has_failed }

-- what came of taking a file to its end, which then stands so
abbrev pub IsTakenTo : {F : Type 0} → Reads F → ℕ → F → F → Result (Vec ℕ Global) TakeFault → Type 0
IsTakenTo reads limit file after (Ok bytes) =
    (length bytes.items ≤ limit) × Consumes (reads.left file) (reads.left after) bytes.items
    × IsAtEnd (reads.left after)
IsTakenTo reads limit file after (Err Read) = ConsumesAtMost limit (reads.left file) (reads.left after)
IsTakenTo reads limit file after (Err TooMuch) = ConsumesBeyond limit (reads.left file) (reads.left after)
IsTakenTo reads limit file after (Err Memory) = ConsumesAtMost limit (reads.left file) (reads.left after)

-- what came of taking a file to its end, at most so many bytes
pub record IsTaken {F : Type 0} (reads : Reads F) (limit : ℕ) (file : F) (taken : Result (Vec ℕ Global) TakeFault)
    : Type 0 where
  pub after : F
  pub so : IsTakenTo reads limit file after taken
  pub read : (reads.has_failed after ≡ true) ↔ IsErrOf taken Read

-- the same of a file that was to be opened: one that cannot be opened cannot be read
abbrev pub IsGiven : {F : Type 0} → Reads F → ℕ → Result F Failed → Result (Vec ℕ Global) TakeFault → Type 0
IsGiven reads limit (Ok file) taken = IsTaken reads limit file taken
IsGiven reads limit (Err failed) taken = taken ≡ Err Read

-- the deeds are to open a file, which is then taken to its end
pub record TakesFile {F P : Type 0} (reads : Reads F) (path : List ℕ) (limit : ℕ)
    (taken : Result (Vec ℕ Global) TakeFault) (trace : List (IoEvent F P)) : Type 0 where
  pub file : Result F Failed
  pub did : trace ≡ Opened path file ∷ []
  pub given : IsGiven reads limit file taken

-- the deeds are to open a file, all of whose bytes are the image of this machine
pub record OpensImage {F P : Type 0} (reads : Reads F) (path : List ℕ) (start : SizedMachine) (trace : List (IoEvent F P))
    : Type 0 where
  pub file : F
  pub after : F
  pub did : trace ≡ Opened path (Ok file) ∷ []
  pub image : GivesRest IMAGE_LIMIT (reads.left file) (reads.left after) (λ bytes. image_opened bytes ≡ Ok start)
  pub read : ¬ (reads.has_failed after ≡ true)

-- why no machine comes of a file that was opened
pub record HasNoMachine {F : Type 0} (reads : Reads F) (file : F) (fault : ProgramFault) : Type 0 where
  pub after : F
  pub own : OpenSourceFault
  pub told : fault ≡ of_open own
  pub refused : IsUnopenedSource IMAGE_LIMIT (reads.left file) (reads.left after) own
  pub read : (reads.has_failed after ≡ true) ↔ (own ≡ Source source.Read)

-- the same of a file that was to be opened: one that cannot be opened cannot be read
abbrev pub IsNoImage : {F : Type 0} → Reads F → Result F Failed → ProgramFault → Type 0
IsNoImage reads (Ok file) fault = HasNoMachine reads file fault
IsNoImage reads (Err failed) fault = fault ≡ unread

-- the deeds are to open a file, of which no machine comes
pub record RefusesImage {F P : Type 0} (reads : Reads F) (path : List ℕ) (fault : ProgramFault)
    (trace : List (IoEvent F P)) : Type 0 where
  pub file : Result F Failed
  pub did : trace ≡ Opened path file ∷ []
  pub refused : IsNoImage reads file fault

-- the text is refused with this fault: it was not read to its end, or is no program, or memory ran out
abbrev pub IsRefusedText : Result (Vec ℕ Global) TakeFault → ProgramFault → Type 0
IsRefusedText (Ok text) (Text fault) = IsFaultOf text.items fault
IsRefusedText (Ok text) _ = ⊥
IsRefusedText (Err own) fault = fault ≡ of_take own

-- the deeds are to take a text, which is this program
pub record ReadsProgram {F P : Type 0} (reads : Reads F) (path : List ℕ) (program : ProgramText)
    (trace : List (IoEvent F P)) : Type 0 where
  pub text : Vec ℕ Global
  pub takes : TakesFile reads path PROGRAM_LIMIT (Ok text) trace
  pub is : program_of text.items ≡ Ok program

-- the deeds are to take a text, which is refused
pub record RefusesProgram {F P : Type 0} (reads : Reads F) (path : List ℕ) (fault : ProgramFault)
    (trace : List (IoEvent F P)) : Type 0 where
  pub taken : Result (Vec ℕ Global) TakeFault
  pub takes : TakesFile reads path PROGRAM_LIMIT taken trace
  pub refused : IsRefusedText taken fault

-- the deeds take an image, and then a text
pub record TakesBoth {F P : Type 0} (reads : Reads F) (image text : List ℕ) (start : SizedMachine)
    (program : ProgramText) (trace : List (IoEvent F P)) : Type 0 where
  pub first : List (IoEvent F P)
  pub second : List (IoEvent F P)
  pub did : trace ≡ first ++ second
  pub opens : OpensImage reads image start first
  pub reads_text : ReadsProgram reads text program second

-- the image is taken, and the text is refused
pub record RefusesText {F P : Type 0} (reads : Reads F) (image text : List ℕ) (fault : ProgramFault)
    (trace : List (IoEvent F P)) : Type 0 where
  pub first : List (IoEvent F P)
  pub second : List (IoEvent F P)
  pub did : trace ≡ first ++ second
  pub start : SizedMachine
  pub opens : OpensImage reads image start first
  pub refused : RefusesProgram reads text fault second

-- the image is refused, or the text is
abbrev pub RefusesBoth : {F P : Type 0} → Reads F → List ℕ → List ℕ → ProgramFault → List (IoEvent F P) → Type 0
RefusesBoth reads image text fault trace =
    RefusesImage reads image fault trace ⊎ RefusesText reads image text fault trace
