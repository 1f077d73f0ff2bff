-- What a session of one chip writes, or why it refuses. Ours.
use Rattle.std.specs.Prelude.{◌≡◌, ℕ, ◌<◌, ◌≤◌, Bool, true, false, Option, Result, Ok, Err, List, length, map, take}
use Rattle.std.specs.Io.KnownBytes.{Appends, Consumes, Keeps}
use Rattle.cm_model.specs.declared.act.Nano.{Nano as Instruction}
use Rattle.cm_model.specs.declared.act.Act.TheVariants.{Nano}
use Rattle.cm_model.specs.Processor.{Processor}
use Rattle.cm_model.specs.Array.{chip_at}
use Rattle.cm_model.specs.Machine.{blank_machine, run_of}
use Rattle.cm_language.specs.declared.fault.AsmFault.{AsmFault}
use Rattle.cm_system.specs.declared.fault.ChipFault.{ChipFault}
use Rattle.cm_system.specs.declared.fault.ChipFault.TheVariants.{Text, Read, Write, TooMuch, Memory}
use Rattle.cm_tools.specs.Program.{nanos_of, IsChipFaultOf}
use Rattle.cm_tools.specs.ChipText.{chip_session_text}

-- the most bytes that a session reads
abbrev pub CHIP_LIMIT : ℕ
CHIP_LIMIT = 1048576

-- the chip after a list of instructions on a blank machine of one chip
unfoldable pub chip_left : List Instruction → List Processor
chip_left nanos = chip_at (run_of 0 7 (blank_machine 0) (map Nano nanos)).chips 0

-- what is written for instructions that were read
abbrev pub answer_to : Result (List Instruction) AsmFault → Result (List ℕ) AsmFault
answer_to (Ok nanos) = Ok (chip_session_text (chip_left nanos))
answer_to (Err fault) = Err fault

-- what a session writes for a text, or its first faulty line
abbrev pub answer_of : List ℕ → Result (List ℕ) AsmFault
answer_of text = answer_to (nanos_of text)

-- the whole answer was written
pub record IsAnswered (text : List ℕ) (out_before out_after : Option (List ℕ)) : Type 0 where
  pub within : length text ≤ CHIP_LIMIT
  pub answer : List ℕ
  pub is : answer_of text ≡ Ok answer
  pub written : Appends out_before out_after answer

-- only the first bytes of the answer were written
pub record IsWrittenShort (text : List ℕ) (out_before out_after : Option (List ℕ)) (count : ℕ) : Type 0 where
  pub within : length text ≤ CHIP_LIMIT
  pub answer : List ℕ
  pub is : answer_of text ≡ Ok answer
  pub short : count < length answer
  pub written : Appends out_before out_after (take count answer)

-- the text is refused, and nothing was written
pub record IsTextRefused (text : List ℕ) (out_before out_after : Option (List ℕ)) (fault : AsmFault) : Type 0 where
  pub within : length text ≤ CHIP_LIMIT
  pub is : IsChipFaultOf text fault
  pub nothing : Keeps out_before out_after

-- the text is too long, and nothing was written
pub record IsTooLong (text : List ℕ) (out_before out_after : Option (List ℕ)) : Type 0 where
  pub beyond : CHIP_LIMIT < length text
  pub nothing : Keeps out_before out_after

-- how a session ends whose source has this text
abbrev pub ChipSessionEnds : List ℕ → Option (List ℕ) → Option (List ℕ) → Result (Unit {0}) ChipFault → Type 0
ChipSessionEnds text out_before out_after (Ok done) = IsAnswered text out_before out_after
ChipSessionEnds text out_before out_after (Err (Text fault)) = IsTextRefused text out_before out_after fault
ChipSessionEnds text out_before out_after (Err Read) = Keeps out_before out_after
ChipSessionEnds text out_before out_after (Err (Write count)) = IsWrittenShort text out_before out_after count
ChipSessionEnds text out_before out_after (Err TooMuch) = IsTooLong text out_before out_after
ChipSessionEnds text out_before out_after (Err Memory) = Keeps out_before out_after

-- a source, of which that is left in the end, gave some text, and it ended so as of that text and nothing more: this can
-- be said of a source that does not tell its bytes
pub record EndsForSome (source rest out_before out_after : Option (List ℕ)) (result : Result (Unit {0}) ChipFault) : Type 0 where
  pub text : List ℕ
  pub read : Consumes source rest text
  pub ends : ChipSessionEnds text out_before out_after result

-- the session ended by a write
abbrev pub is_chip_write : Result (Unit {0}) ChipFault → Bool
is_chip_write (Err (Write count)) = true
is_chip_write _ = false

-- the session came to the end of its text: it was answered, or refused for what stands in it
abbrev pub has_read_all : Result (Unit {0}) ChipFault → Bool
has_read_all (Ok done) = true
has_read_all (Err (Text fault)) = true
has_read_all (Err (Write count)) = true
has_read_all _ = false

-- every line of the text is accepted
pub record IsAccepted (text : List ℕ) : Type 0 where
  pub nanos : List Instruction
  pub is : nanos_of text ≡ Ok nanos

-- why there is no answer to a text that was read: want of memory is told so only once all lines are accepted
abbrev pub HasNoAnswer : List ℕ → ChipFault → Type 0
HasNoAnswer text (Text fault) = IsChipFaultOf text fault
HasNoAnswer text Memory = IsAccepted text
HasNoAnswer text _ = ⊥
