-- What `cm1 list` writes, or why it refuses. Ours.
use Rattle.std.specs.Prelude.{◌≡◌, ℕ, ◌<◌, ◌≤◌, Bool, true, false, Option, Result, Ok, Err, List, length}
use Rattle.std.specs.Io.KnownBytes.{Appends, Consumes, Keeps}
use Rattle.cm_language.specs.declared.fault.AsmFault.{AsmFault}
use Rattle.cm_language.specs.Program.{ProgramText, program_of, IsFaultOf}
use Rattle.cm_language.specs.Listing.{listing}
use Rattle.cm_system.specs.InputFiles.{PROGRAM_LIMIT}
use Rattle.cm_system.specs.Report.{HasFront}
use Rattle.cm_system.specs.declared.program_fault.ProgramFault.{ProgramFault}
use Rattle.cm_system.specs.declared.program_fault.ProgramFault.TheVariants.{Text, Read, Write}
use Rattle.cm_system.specs.declared.program_fault.ProgramFault.TheVariants.{TooMuch, Memory}

-- a text is a program, whose listing this is
pub record IsListingOf (text bytes : List ℕ) : Type 0 where
  pub program : ProgramText
  pub is : program_of text ≡ Ok program
  pub listed : bytes ≡ listing program

-- every line of a text is accepted
pub record HasProgram (text : List ℕ) : Type 0 where
  pub program : ProgramText
  pub is : program_of text ≡ Ok program

-- why there is no listing of a text: want of memory is told so only of a program
abbrev pub HasNoListing : List ℕ → ProgramFault → Type 0
HasNoListing text (Text fault) = IsFaultOf text fault
HasNoListing text Memory = HasProgram text
HasNoListing text _ = ⊥

-- the whole listing was written
pub record IsListed (text : List ℕ) (out_before out_after : Option (List ℕ)) : Type 0 where
  pub within : length text ≤ PROGRAM_LIMIT
  pub bytes : List ℕ
  pub is : IsListingOf text bytes
  pub written : Appends out_before out_after bytes

-- only the first bytes of the listing were written
pub record IsListedInPart (text : List ℕ) (out_before out_after : Option (List ℕ)) : Type 0 where
  pub within : length text ≤ PROGRAM_LIMIT
  pub bytes : List ℕ
  pub is : IsListingOf text bytes
  pub front : HasFront out_before out_after bytes

-- the text is refused, and nothing was written
pub record IsNotListed (text : List ℕ) (out_before out_after : Option (List ℕ)) (fault : AsmFault) : Type 0 where
  pub within : length text ≤ PROGRAM_LIMIT
  pub is : IsFaultOf text fault
  pub nothing : Keeps out_before out_after

-- the text is too long, and nothing was written
pub record IsTooLongToList (text : List ℕ) (out_before out_after : Option (List ℕ)) : Type 0 where
  pub beyond : PROGRAM_LIMIT < length text
  pub nothing : Keeps out_before out_after

-- how the listing of a source that has this text ends
abbrev pub EndsListing : List ℕ → Option (List ℕ) → Option (List ℕ) → Result (Unit {0}) ProgramFault → Type 0
EndsListing text out_before out_after (Ok done) = IsListed text out_before out_after
EndsListing text out_before out_after (Err (Text fault)) = IsNotListed text out_before out_after fault
EndsListing text out_before out_after (Err Read) = Keeps out_before out_after
EndsListing text out_before out_after (Err Write) = IsListedInPart text out_before out_after
EndsListing text out_before out_after (Err TooMuch) = IsTooLongToList text out_before out_after
EndsListing text out_before out_after (Err Memory) = Keeps out_before out_after
EndsListing text out_before out_after _ = ⊥

-- a source, of which that is left in the end, gave some text, and it ended so as of that text and nothing more: this can
-- be said of a source that does not tell its bytes
pub record EndsListingForSome (source rest out_before out_after : Option (List ℕ)) (result : Result (Unit {0}) ProgramFault)
    : Type 0 where
  pub text : List ℕ
  pub read : Consumes source rest text
  pub ends : EndsListing text out_before out_after result

-- it ended by a write
abbrev pub is_listing_write : Result (Unit {0}) ProgramFault → Bool
is_listing_write (Err Write) = true
is_listing_write _ = false

-- it came to the end of the text: the text was listed, or refused for what stands in it
abbrev pub has_read_all : Result (Unit {0}) ProgramFault → Bool
has_read_all (Ok done) = true
has_read_all (Err (Text fault)) = true
has_read_all (Err Write) = true
has_read_all _ = false
