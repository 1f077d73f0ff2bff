-- What goes into a file, and what is done where none was made ready.
use Rattle.std.proofs.Common.{◌≡◌, ℕ, List, [], Option, None, Result, Ok, Err, refl, sym, take, drop, take-append-drop}
use Rattle.std.specs.Io.KnownBytes.{Appends}
use Rattle.cm_bits.specs.declared.ends.Failed.{Failed}
use Rattle.cm_image_dump.specs.Sending.{GoesOutInPart}
use Rattle.cm_system.specs.declared.program_fault.ProgramFault.{ProgramFault}
use Rattle.cm_system.specs.OutputFiles.{SavesAfter, flush_end}

-- the first of these bytes, so many
pub front_out : (out_before out_after : Option (List ℕ)) (bytes : List ℕ) (count : ℕ) → Appends out_before out_after (take count bytes)
    → GoesOutInPart out_before out_after bytes
front_out out_before out_after bytes count went = record {
  left = drop count bytes;
  so = record { out = take count bytes; went = went; is = sym (take-append-drop count bytes) };
}

-- nothing is done with a file where none was made ready
pub saves_none : (F P : Type 0) (done : Result (Unit {0}) Failed) (result : Result (Unit {0}) ProgramFault)
    → result ≡ flush_end done → SavesAfter {F = F} {P = P} done None None result []
saves_none F P (Ok done) result told = (refl, told)
saves_none F P (Err failed) result told = (refl, told)
