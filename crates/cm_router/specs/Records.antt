-- The records of the processors that ask to send, read at once for eight chips. Ours.
use Rattle.std.specs.Prelude.{ℕ, ◌+◌, ◌*◌, ◌<◌, Option, IfSome, List, length, slice_index}
use Rattle.cm_model.specs.declared.letters.TheConstants.{SENT_REL, SENT_PROC, SENT_PAYLOAD}
use Rattle.cm_model.specs.Processor.{Processor, memory_bit, field_value}
use Rattle.cm_model.specs.Chip.{IsPlane, processor_at}
use Rattle.cm_model.specs.Array.{Chips, chip_at}
use Rattle.cm_router.specs.declared.letters.Record.{Record}

-- the record of a processor: what stands in its memory of the message that it asks to send
abbrev pub record_of : Processor → Record
record_of processor = record {
  rel = field_value processor SENT_REL 16;
  proc = field_value processor SENT_PROC 4;
  payload = field_value processor SENT_PAYLOAD 32;
}

-- the records of eight chips, once they were read
pub record Held : Type 0 where
  -- the place of the first chip
  pub first : Option ℕ
  -- chip by chip, 64 words apart
  pub planes : List ℕ

-- these planes are those of a chip from the first bit of a record on
abbrev pub AreRecordPlanes : List ℕ → List Processor → Type 0
AreRecordPlanes planes chip =
    (k : ℕ) → k < 56 → IsPlane (slice_index planes k) (λ p. memory_bit (processor_at chip p) (SENT_REL + k))

-- such planes, chip by chip, are those of eight chips of a run from a place on
abbrev pub AreRecordsFrom : List ℕ → Chips → ℕ → Type 0
AreRecordsFrom planes run first =
    (c k : ℕ) → c < 8 → first + c < length run → k < 56 → IsPlane (slice_index planes (c * 64 + k))
    (λ p. memory_bit (processor_at (chip_at run (first + c)) p) (SENT_REL + k))

-- what is held of the records of a run's chips is right
unfoldable pub AreRecords : Held → Chips → Type 0
AreRecords held run = IfSome held.first (AreRecordsFrom held.planes run)
