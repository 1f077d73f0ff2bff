-- How a session of one chip ends, exit by exit, by what its source gave.
use Rattle.std.proofs.Common.{ℕ, ◌<◌, ◌≤◌, Option, None, Some, Result, Err, List, length, IfSome}
use Rattle.std.proofs.KnownBytes.{Keeps-refl, Consumes-whole}
use Rattle.std.specs.Io.KnownBytes.{Consumes, IsAtEnd}
use Rattle.cm_system.specs.declared.fault.ChipFault.{ChipFault}
use Rattle.cm_system.specs.declared.fault.ChipFault.TheVariants.{Text, Read, Write, TooMuch, Memory}
use Rattle.cm_system.specs.ReadAll.{ConsumesAtMost, ConsumesBeyond}
use Rattle.cm_tools.specs.Session.{CHIP_LIMIT, ChipSessionEnds, EndsForSome, HasNoAnswer, IsTooLong}

-- a read failed
pub heard_read : (source rest out : Option (List ℕ)) → ConsumesAtMost CHIP_LIMIT source rest
    → EndsForSome source rest out out (Err Read)
heard_read source rest out most = record { text = most.bytes; read = most.consumed; ends = Keeps-refl out }

-- no memory for what was read
pub heard_memory : (source rest out : Option (List ℕ)) → ConsumesAtMost CHIP_LIMIT source rest
    → EndsForSome source rest out out (Err Memory)
heard_memory source rest out most = record { text = most.bytes; read = most.consumed; ends = Keeps-refl out }

-- too much was read
pub heard_too_much : (source rest out : Option (List ℕ)) → ConsumesBeyond CHIP_LIMIT source rest
    → EndsForSome source rest out out (Err TooMuch)
heard_too_much source rest out beyond = record {
  text = beyond.bytes;
  read = beyond.consumed;
  ends = record { beyond = beyond.many; nothing = Keeps-refl out };
}

pub known_too_long : (source out : Option (List ℕ)) → IfSome source (λ text. CHIP_LIMIT < length text)
    → IfSome source (λ text. IsTooLong text out out)
known_too_long None out much = tt
known_too_long (Some text) out much = record { beyond = much; nothing = Keeps-refl out }

-- the whole text was read, and there is no answer to it
pub refused : (text : List ℕ) (out : Option (List ℕ)) (fault : ChipFault) → length text ≤ CHIP_LIMIT
    → HasNoAnswer text fault → ChipSessionEnds text out out (Err fault)
refused text out (Text fault) within why = record { within = within; is = why; nothing = Keeps-refl out }
refused text out Read within why = absurd why
refused text out (Write count) within why = absurd why
refused text out TooMuch within why = absurd why
refused text out Memory within why = Keeps-refl out

-- what is so of a text that was read to its end is so of the source's text, where that is known
pub known : (source rest : Option (List ℕ)) (text : List ℕ) (out_before out_after : Option (List ℕ))
    (result : Result (Unit {0}) ChipFault) → Consumes source rest text → IsAtEnd rest
    → ChipSessionEnds text out_before out_after result
    → IfSome source (λ all. ChipSessionEnds all out_before out_after result)
known source rest text out_before out_after result read end ends =
    Consumes-whole source rest text (λ all. ChipSessionEnds all out_before out_after result) read end ends
