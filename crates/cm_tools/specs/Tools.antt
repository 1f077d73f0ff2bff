-- What the program does for the lines `chip`, `list` and `fresh`. Ours.
use Rattle.std.specs.Prelude.{◌≡◌, ◌↔◌, ℕ, Bool, true, false, Option, None, IfSome, IfOk, IsErrOf, IsOkUnless}
use Rattle.std.specs.Prelude.{IsTrue, Result, Ok, Err, Vec, List, [], ◌∷◌}
use Rattle.std.specs.declared.alloc.Global.{Global}
use Rattle.std.specs.Io.KnownBytes.{IsAtEnd}
use Rattle.cm_bits.specs.declared.ends.Failed.{Failed}
use Rattle.cm_model.specs.Machine.{blank_machine}
use Rattle.cm_image_format.specs.Whole.{text_of}
use Rattle.cm_system.specs.declared.fault.ChipFault.{ChipFault}
use Rattle.cm_system.specs.declared.fault.ChipFault.TheVariants as chip
use Rattle.cm_system.specs.declared.program_fault.ProgramFault.{ProgramFault}
use Rattle.cm_system.specs.declared.program_fault.ProgramFault.TheVariants.{Read, TooMuch, Memory}
use Rattle.cm_system.specs.ProgramFault.{of_chip}
use Rattle.cm_system.specs.ReadAll.{ConsumesAtMost, ConsumesBeyond}
use Rattle.cm_tools.specs.Session.{CHIP_LIMIT, ChipSessionEnds, EndsForSome, has_read_all as has_heard_all}
use Rattle.cm_tools.specs.Session.{is_chip_write}
use Rattle.cm_system.specs.InputFiles.{PROGRAM_LIMIT}
use Rattle.cm_tools.specs.Listed.{EndsListing, EndsListingForSome, has_read_all, is_listing_write}
use Rattle.cm_tools.specs.Fresh.{program_fresh_fault}
use Rattle.cm_system.specs.Trace.{IoEvent, Opened}
use Rattle.cm_system.specs.InputFiles.{Reads}
use Rattle.cm_system.specs.OutputFiles.{Flushes, Puts}
use Rattle.cm_system.specs.Streams.{Streams}

-- how the program ends where a session of one chip ended so
abbrev pub chip_end : Result (Unit {0}) ChipFault → Result (Unit {0}) ProgramFault
chip_end (Ok done) = Ok tt
chip_end (Err fault) = Err (of_chip fault)

-- `chip`: a session of one chip, and standard output goes out
pub record IsChipTrace {F P : Type 0} (streams : Streams) (result : Result (Unit {0}) ProgramFault)
    (trace : List (IoEvent F P)) : Type 0 where
  pub ended : Result (Unit {0}) ChipFault
  pub ends : IfSome streams.lines (λ text. ChipSessionEnds text streams.out_before streams.out_after ended)
  pub heard : EndsForSome streams.lines streams.rest streams.out_before streams.out_after ended
  pub end : IsTrue (has_heard_all ended) → IsAtEnd streams.rest
  pub read : (streams.read_failed ≡ true) ↔ IsErrOf ended chip.Read
  pub read_within : IsErrOf ended chip.Read → ConsumesAtMost CHIP_LIMIT streams.lines streams.rest
  pub memory_within : IsErrOf ended chip.Memory → ConsumesAtMost CHIP_LIMIT streams.lines streams.rest
  pub too_much_came : IsErrOf ended chip.TooMuch → ConsumesBeyond CHIP_LIMIT streams.lines streams.rest
  pub write : streams.write_failed ≡ is_chip_write ended
  pub then : Flushes streams.out_after (chip_end ended) result trace

-- a program's file is open: its listing is written, and standard output goes out
pub record ListsOut {F P : Type 0} (reads : Reads F) (file : F) (out_before out_after : Option (List ℕ)) (failed : Bool)
    (result : Result (Unit {0}) ProgramFault) (trace : List (IoEvent F P)) : Type 0 where
  pub after : F
  pub ended : Result (Unit {0}) ProgramFault
  pub ends : IfSome (reads.left file) (λ text. EndsListing text out_before out_after ended)
  pub heard : EndsListingForSome (reads.left file) (reads.left after) out_before out_after ended
  pub end : IsTrue (has_read_all ended) → IsAtEnd (reads.left after)
  pub read : (reads.has_failed after ≡ true) ↔ IsErrOf ended Read
  pub read_within : IsErrOf ended Read → ConsumesAtMost PROGRAM_LIMIT (reads.left file) (reads.left after)
  pub memory_within : IsErrOf ended Memory → ConsumesAtMost PROGRAM_LIMIT (reads.left file) (reads.left after)
  pub too_much_came : IsErrOf ended TooMuch → ConsumesBeyond PROGRAM_LIMIT (reads.left file) (reads.left after)
  pub write : failed ≡ is_listing_write ended
  pub then : Flushes out_after ended result trace

-- the same of a file that was to be opened
abbrev pub Lists : {F P : Type 0} → Reads F → Result F Failed → Option (List ℕ) → Option (List ℕ) → Bool
    → Result (Unit {0}) ProgramFault → List (IoEvent F P) → Type 0
Lists reads (Ok file) out_before out_after failed result trace = ListsOut reads file out_before out_after failed result trace
Lists reads (Err none) out_before out_after failed result trace =
    (trace ≡ []) × (result ≡ Err Read) × (out_after ≡ out_before) × (failed ≡ false)

-- `list`: a program's file is opened, and its listing goes to a sink, which held this and holds that, and has failed or
-- not
pub record IsListTrace {F P : Type 0} (reads : Reads F) (path : List ℕ) (out_before out_after : Option (List ℕ)) (failed : Bool)
    (result : Result (Unit {0}) ProgramFault) (trace : List (IoEvent F P)) : Type 0 where
  pub file : Result F Failed
  pub more : List (IoEvent F P)
  pub did : trace ≡ Opened path file ∷ more
  pub then : Lists reads file out_before out_after failed result more

-- the image of a blank machine, or why there is none
pub record IsBlankImage (n cap : ℕ) (made : Result (Vec ℕ Global) ProgramFault) : Type 0 where
  pub value : IfOk made (λ image. image.items ≡ text_of n cap (blank_machine n))
  pub refused : IfSome (program_fresh_fault n cap) (λ fault. IsErrOf made fault)
  pub otherwise : program_fresh_fault n cap ≡ None → IsOkUnless made Memory

-- an image that was made is put where the path says
abbrev pub PutsMade : {F P : Type 0} → List ℕ → Result (Vec ℕ Global) ProgramFault → Result (Unit {0}) ProgramFault
    → List (IoEvent F P) → Type 0
PutsMade path (Ok image) result trace = Puts path image.items result trace
PutsMade path (Err fault) result trace = (trace ≡ []) × (result ≡ Err fault)

-- `fresh`: the image of a blank machine is made, and put where the path says
pub record IsFreshTrace {F P : Type 0} (n cap : ℕ) (path : List ℕ) (result : Result (Unit {0}) ProgramFault)
    (trace : List (IoEvent F P)) : Type 0 where
  pub made : Result (Vec ℕ Global) ProgramFault
  pub is : IsBlankImage n cap made
  pub then : PutsMade path made result trace
