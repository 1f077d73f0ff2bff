-- What the program does with the file that it writes, before its work begins and once it has ended, and with standard
-- output. Ours.
use Rattle.std.specs.Prelude.{◌≡◌, ℕ, Bool, true, false, Option, Some, None, Result, Ok, Err, List, [], ◌∷◌}
use Rattle.std.specs.Option.{is_some}
use Rattle.cm_bits.specs.declared.ends.Failed.{Failed}
use Rattle.cm_model.specs.Machine.{Machine}
use Rattle.cm_image_format.specs.Whole.{text_of}
use Rattle.cm_system.specs.declared.system.PutFault.{PutFault}
use Rattle.cm_system.specs.declared.program_fault.ProgramFault.{ProgramFault}
use Rattle.cm_system.specs.declared.program_fault.ProgramFault.TheVariants.{Write, Memory}
use Rattle.cm_system.specs.ProgramFault.{of_put}
use Rattle.cm_system.specs.Trace.{IoEvent, Readied, Flushed, Filled, LetGo}

-- the bytes of the image that is kept of a machine, if one is to be kept
abbrev pub IsImageKept : ℕ → ℕ → Machine → Bool → Option (List ℕ) → Type 0
IsImageKept n cap machine true (Some image) = image ≡ text_of n cap machine
IsImageKept n cap machine true None = ⊥
IsImageKept n cap machine false (Some image) = ⊥
IsImageKept n cap machine false None = Unit {0}

-- the same, or want of memory for an image that is to be kept
abbrev pub KeepsImage : ℕ → ℕ → Machine → Bool → Result (Option (List ℕ)) ProgramFault → Type 0
KeepsImage n cap machine keeps (Ok kept) = IsImageKept n cap machine keeps kept
KeepsImage n cap machine keeps (Err fault) = (keeps ≡ true) × (fault ≡ Memory)

-- the deeds make the file ready that is to be written, if one is named
abbrev pub Readies : {F P : Type 0} → Option (List ℕ) → Option P → List (IoEvent F P) → Type 0
Readies None None trace = trace ≡ []
Readies None (Some part) trace = ⊥
Readies (Some path) (Some part) trace = trace ≡ Readied path (Ok part) ∷ []
Readies (Some path) None trace = ⊥

-- the deeds are to make it ready, which fails
pub record FailsToReady {F P : Type 0} (path : List ℕ) (fault : ProgramFault) (trace : List (IoEvent F P)) : Type 0 where
  pub own : PutFault
  pub did : trace ≡ Readied path (Err own) ∷ []
  pub told : fault ≡ of_put own

-- the same of a file that is named; where none is, nothing fails
abbrev pub IsUnready : {F P : Type 0} → Option (List ℕ) → ProgramFault → List (IoEvent F P) → Type 0
IsUnready None fault trace = ⊥
IsUnready (Some path) fault trace = FailsToReady path fault trace

-- how the program ends where putting a file ended so
abbrev pub put_end : Result (Unit {0}) PutFault → Result (Unit {0}) ProgramFault
put_end (Ok done) = Ok tt
put_end (Err fault) = Err (of_put fault)

-- how it ends where standard output was to go out
abbrev pub flush_end : Result (Unit {0}) Failed → Result (Unit {0}) ProgramFault
flush_end (Ok done) = Ok tt
flush_end (Err failed) = Err Write

-- the deeds are to fill the file that was made ready, and the program ends as that does
pub record Fills {F P : Type 0} (part : P) (bytes : List ℕ) (result : Result (Unit {0}) ProgramFault)
    (trace : List (IoEvent F P)) : Type 0 where
  pub done : Result (Unit {0}) PutFault
  pub did : trace ≡ Filled part bytes done ∷ []
  pub told : result ≡ put_end done

-- once a file was to be made ready
abbrev pub FillsReady : {F P : Type 0} → Result P PutFault → List ℕ → Result (Unit {0}) ProgramFault
    → List (IoEvent F P) → Type 0
FillsReady (Ok part) bytes result trace = Fills part bytes result trace
FillsReady (Err fault) bytes result trace = (trace ≡ []) × (result ≡ Err (of_put fault))

-- the deeds are to make a file ready, and to fill it
pub record Puts {F P : Type 0} (path bytes : List ℕ) (result : Result (Unit {0}) ProgramFault)
    (trace : List (IoEvent F P)) : Type 0 where
  pub part : Result P PutFault
  pub more : List (IoEvent F P)
  pub did : trace ≡ Readied path part ∷ more
  pub then : FillsReady part bytes result more

-- the deeds are that standard output goes out, and the program ends as that does
pub record FlushesOut {F P : Type 0} (out_after : Option (List ℕ)) (result : Result (Unit {0}) ProgramFault)
    (trace : List (IoEvent F P)) : Type 0 where
  pub done : Result (Unit {0}) Failed
  pub did : trace ≡ Flushed out_after done ∷ []
  pub told : result ≡ flush_end done

-- once the program's work ended so: standard output goes out where it has no fault, and nothing more is done
abbrev pub Flushes : {F P : Type 0} → Option (List ℕ) → Result (Unit {0}) ProgramFault
    → Result (Unit {0}) ProgramFault → List (IoEvent F P) → Type 0
Flushes out_after (Ok done) result trace = FlushesOut out_after result trace
Flushes out_after (Err fault) result trace = (trace ≡ []) × (result ≡ Err fault)

-- the deeds that take away the file that was made ready, if one was
abbrev pub let_go : {F P : Type 0} → Option P → List (IoEvent F P)
let_go None = []
let_go (Some part) = LetGo part ∷ []

-- once standard output was to go out: the file that was made ready, if one was, is filled with the image that was kept
abbrev pub Saves : {F P : Type 0} → Option P → Option (List ℕ) → Result (Unit {0}) ProgramFault
    → List (IoEvent F P) → Type 0
Saves None kept result trace = (trace ≡ []) × (result ≡ Ok tt)
Saves (Some part) (Some image) result trace = Fills part image result trace
Saves (Some part) None result trace = ⊥

-- and where it could not go out, that file is taken away
abbrev pub SavesAfter : {F P : Type 0} → Result (Unit {0}) Failed → Option P → Option (List ℕ)
    → Result (Unit {0}) ProgramFault → List (IoEvent F P) → Type 0
SavesAfter (Ok done) part kept result trace = Saves part kept result trace
SavesAfter (Err failed) part kept result trace = (trace ≡ let_go part) × (result ≡ Err Write)

-- a session ended well: standard output goes out, and only then is the file filled
pub record FinishesWell {F P : Type 0} (part : Option P) (out_after : Option (List ℕ)) (kept : Option (List ℕ))
    (result : Result (Unit {0}) ProgramFault) (trace : List (IoEvent F P)) : Type 0 where
  pub done : Result (Unit {0}) Failed
  pub more : List (IoEvent F P)
  pub did : trace ≡ Flushed out_after done ∷ more
  pub then : SavesAfter done part kept result more

-- once a session ended so: after a fault the file that was made ready is taken away, and nothing more is done
abbrev pub FinishesOutput : {F P : Type 0} → Option P → Option (List ℕ) → Result (Option (List ℕ)) ProgramFault
    → Result (Unit {0}) ProgramFault → List (IoEvent F P) → Type 0
FinishesOutput part out_after (Ok kept) result trace = FinishesWell part out_after kept result trace
FinishesOutput part out_after (Err fault) result trace = (trace ≡ let_go part) × (result ≡ Err fault)

-- a session ended well, and left this machine: its image is kept, if a file was made ready, and goes there
pub record FinishesWithImage {F P : Type 0} (n cap : ℕ) (machine : Machine) (part : Option P) (out_after : Option (List ℕ))
    (result : Result (Unit {0}) ProgramFault) (trace : List (IoEvent F P)) : Type 0 where
  pub kept : Result (Option (List ℕ)) ProgramFault
  pub is : KeepsImage n cap machine (is_some part) kept
  pub closes : FinishesOutput part out_after kept result trace

-- the deeds take away the file that was made ready, if one was, and the program ends with this fault
abbrev pub Aborts : {F P : Type 0} → Option P → ProgramFault → Result (Unit {0}) ProgramFault → List (IoEvent F P)
    → Type 0
Aborts part fault result trace = (trace ≡ let_go part) × (result ≡ Err fault)
