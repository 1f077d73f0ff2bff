-- How the listing of a program ends, exit by exit, by what the source gave.
use Rattle.std.proofs.Common.{◌≡◌, ℕ, ◌<◌, ◌≤◌, Option, None, Some, Result, Err, List}
use Rattle.std.proofs.Common.{length, IfSome, refl, sym, subst}
use Rattle.std.proofs.KnownBytes.{Keeps-refl, Consumes-whole}
use Rattle.std.specs.Prelude.{IsErrOf}
use Rattle.std.specs.Io.KnownBytes.{Consumes, IsAtEnd}
use Rattle.cm_system.specs.declared.program_fault.ProgramFault.{ProgramFault}
use Rattle.cm_system.specs.declared.program_fault.ProgramFault.TheVariants.{BadLine, Text, Image, Cap, Read}
use Rattle.cm_system.specs.declared.program_fault.ProgramFault.TheVariants.{Write, TooMuch, Memory}
use Rattle.cm_system.specs.declared.program_fault.ProgramFault.TheVariants.{NoThread, Split, Workers, Long}
use Rattle.cm_system.specs.declared.program_fault.ProgramFault.TheVariants.{Clock, Unfinished}
use Rattle.cm_system.specs.declared.read_all.TakeFault.{TakeFault}
use Rattle.cm_system.specs.declared.read_all.TakeFault.TheVariants as take
use Rattle.cm_system.specs.InputFiles.{PROGRAM_LIMIT}
use Rattle.cm_system.specs.ProgramFault.{of_take}
use Rattle.cm_system.specs.ReadAll.{ConsumesAtMost, ConsumesBeyond}
use Rattle.cm_tools.specs.Listed.{EndsListing, EndsListingForSome, HasNoListing}

-- the text was not read to its end
pub heard_in_part : {T : Type 0} (source rest out : Option (List ℕ)) (fault : TakeFault) (whole : ProgramFault)
    → whole ≡ of_take fault
    → (IsErrOf {T = T} (Err fault) take.Read → ConsumesAtMost PROGRAM_LIMIT source rest)
    → (IsErrOf {T = T} (Err fault) take.Memory → ConsumesAtMost PROGRAM_LIMIT source rest)
    → (IsErrOf {T = T} (Err fault) take.TooMuch → ConsumesBeyond PROGRAM_LIMIT source rest)
    → EndsListingForSome source rest out out (Err whole)
heard_in_part source rest out take.Read whole same read memory much =
    subst (λ (told : ProgramFault). EndsListingForSome source rest out out (Err told)) (sym same)
    (record { text = (read refl).bytes; read = (read refl).consumed; ends = Keeps-refl out })
heard_in_part source rest out take.TooMuch whole same read memory much =
    subst (λ (told : ProgramFault). EndsListingForSome source rest out out (Err told)) (sym same)
    (record {
      text = (much refl).bytes;
      read = (much refl).consumed;
      ends = record { beyond = (much refl).many; nothing = Keeps-refl out };
    })
heard_in_part source rest out take.Memory whole same read memory much =
    subst (λ (told : ProgramFault). EndsListingForSome source rest out out (Err told)) (sym same)
    (record { text = (memory refl).bytes; read = (memory refl).consumed; ends = Keeps-refl out })

-- the same of the source's text, where that is known
pub known_in_part : {T : Type 0} (source out : Option (List ℕ)) (fault : TakeFault) (whole : ProgramFault)
    → whole ≡ of_take fault
    → (IsErrOf {T = T} (Err fault) take.TooMuch → IfSome source (λ text. PROGRAM_LIMIT < length text))
    → IfSome source (λ text. EndsListing text out out (Err whole))
known_in_part None out fault whole same much = tt
known_in_part (Some text) out take.Read whole same much =
    subst (λ (told : ProgramFault). EndsListing text out out (Err told)) (sym same) (Keeps-refl out)
known_in_part (Some text) out take.TooMuch whole same much =
    subst (λ (told : ProgramFault). EndsListing text out out (Err told)) (sym same)
    (record { beyond = much refl; nothing = Keeps-refl out })
known_in_part (Some text) out take.Memory whole same much =
    subst (λ (told : ProgramFault). EndsListing text out out (Err told)) (sym same) (Keeps-refl out)

-- the whole text was read, and it has no listing
pub refused : (text : List ℕ) (out : Option (List ℕ)) (fault : ProgramFault) → length text ≤ PROGRAM_LIMIT
    → HasNoListing text fault → EndsListing text out out (Err fault)
refused text out BadLine within why = absurd why
refused text out (Text fault) within why = record { within = within; is = why; nothing = Keeps-refl out }
refused text out (Image fault) within why = absurd why
refused text out Cap within why = absurd why
refused text out Read within why = absurd why
refused text out Write within why = absurd why
refused text out TooMuch within why = absurd why
refused text out Memory within why = Keeps-refl out
refused text out NoThread within why = absurd why
refused text out Split within why = absurd why
refused text out Workers within why = absurd why
refused text out Long within why = absurd why
refused text out Clock within why = absurd why
refused text out Unfinished within why = absurd why

-- what is so of a text that was read to its end is so of the source's text, where that is known
pub known : (source rest : Option (List ℕ)) (text : List ℕ) (out_before out_after : Option (List ℕ))
    (result : Result (Unit {0}) ProgramFault) → Consumes source rest text → IsAtEnd rest
    → EndsListing text out_before out_after result
    → IfSome source (λ all. EndsListing all out_before out_after result)
known source rest text out_before out_after result read end ends =
    Consumes-whole source rest text (λ all. EndsListing all out_before out_after result) read end ends
