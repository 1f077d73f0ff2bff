-- What injection takes out of the memory of a chip's processors, and what delivery leaves there:
-- where they stand is ours.
use Rattle.std.specs.Prelude.{◌≡◌, ℕ, ◌≤◌, ◌+◌, ◌-◌, ◌^◌, ◌%◌, ◌==◌, ◌&&◌, Bool, true, false, not, List, ◌++◌}
use Rattle.std.specs.Prelude.{Option, Some, None, min, map, take, drop, slice_set, if◌then◌else◌}
use Rattle.std.specs.List.{All, count_by, filter, find, list_any, range_with_len}
use Rattle.cm_bits.specs.Bit.{bit}
use Rattle.cm_model.specs.declared.letters.TheConstants.{SENT_REL, SENT_PROC, SENT_PAYLOAD, RECEIVED_PAYLOAD}
use Rattle.cm_model.specs.declared.message.Message.{Message}
use Rattle.cm_model.specs.Processor.{Processor, SEND, ACK, RECV, flag, field_value}
use Rattle.cm_model.specs.Chip.{each_processor, processor_at}

-- ---- injection

-- the processors of a chip that ask to send, by number
unfoldable pub senders : List Processor → List ℕ
senders chip = filter (λ p. flag (processor_at chip p) SEND) (range_with_len 0 16)

-- those whose messages are taken, at most four and at most as many as there is room for, where so many stand already
abbrev pub senders_taken : ℕ → ℕ → List Processor → List ℕ
senders_taken cap standing chip = take (min 4 (cap - standing)) (senders chip)

-- the message that a processor of chip c sends, in a cube of n dimensions, at this count of petit cycles
abbrev pub message_sent : ℕ → ℕ → ℕ → List Processor → ℕ → Message
message_sent n clock c chip p = record {
  rel = field_value (processor_at chip p) SENT_REL 16 % 2 ^ n;
  proc = field_value (processor_at chip p) SENT_PROC 4;
  payload = field_value (processor_at chip p) SENT_PAYLOAD 32;
  tag = record { chip = c; proc = p; birth = clock };
}

-- the messages of these processors
abbrev pub messages_sent : ℕ → ℕ → ℕ → List Processor → List ℕ → List Message
messages_sent n clock c chip ps = map (message_sent n clock c chip) ps

-- the processor is one of these
abbrev pub is_among : ℕ → List ℕ → Bool
is_among p ps = list_any (λ q. q == p) ps

-- a processor after injection: SEND falls where its message was taken, and ACK tells whether it was
abbrev pub processor_after_injection : Bool → Processor → Processor
processor_after_injection was_taken processor = record processor {
  flags = slice_set (if was_taken then slice_set processor.flags SEND false else processor.flags) ACK was_taken;
}

-- the chip after the messages of these processors were taken
unfoldable pub chip_after_injection : List ℕ → List Processor → List Processor
chip_after_injection ps chip = each_processor (λ p. processor_after_injection (is_among p ps) (processor_at chip p))

-- what injection left of a processor's flags: ACK tells whether its message was taken, and SEND falls if it was
pub record IsAcknowledged (was_taken : Bool) (before after : Processor) : Type 0 where
  pub ack : flag after ACK ≡ was_taken
  pub send : flag after SEND ≡ (flag before SEND && not was_taken)

-- ---- delivery

-- RECV is 0, so that the processor can receive a message
abbrev pub can_receive : List Processor → ℕ → Bool
can_receive chip p = not (flag (processor_at chip p) RECV)

-- the message has come to the chip that it is bound for
abbrev pub has_arrived : Message → Bool
has_arrived m = m.rel == 0

-- the message is for this processor
abbrev pub is_for : ℕ → Message → Bool
is_for p m = m.proc == p

-- the lowest bits of a number, so many
abbrev pub bits_of : ℕ → ℕ → List Bool
bits_of count number = map (bit number) (range_with_len 0 count)

-- the memory with a number in the field of this length at this address
unfoldable pub with_field : List Bool → ℕ → ℕ → ℕ → List Bool
with_field memory at len number = take at memory ++ (bits_of len number ++ drop (at + len) memory)

-- a processor after delivery: the payload stands in its memory and RECV is 1, if a message was delivered to it
abbrev pub processor_after_delivery : Option Message → Processor → Processor
processor_after_delivery None processor = processor
processor_after_delivery (Some m) processor = record {
  memory = with_field processor.memory RECEIVED_PAYLOAD 32 m.payload;
  flags = slice_set processor.flags RECV true;
}

-- the chip after these messages were delivered, at most one to each processor
unfoldable pub chip_after_delivery : List Message → List Processor → List Processor
chip_after_delivery delivered chip =
    each_processor (λ p. processor_after_delivery (find (is_for p) delivered) (processor_at chip p))

-- what was delivered to a processor stands in its field, and its RECV is 1
pub record HasReceived (m : Message) (processor : Processor) : Type 0 where
  pub payload : field_value processor RECEIVED_PAYLOAD 32 ≡ m.payload
  pub flag : flag processor RECV ≡ true

-- these messages can be delivered in one petit cycle
pub record AreDeliveries (receives : ℕ → Bool) (ms : List Message) : Type 0 where
  pub home : All (λ m. has_arrived m ≡ true) ms
  pub received : All (λ m. receives m.proc ≡ true) ms
  pub apart : (p : ℕ) → count_by (is_for p) ms ≤ 1

-- a message that is kept, where these are delivered: it has not arrived, or its processor cannot receive,
-- or one of these is for that processor
abbrev pub IsHeldBack : (ℕ → Bool) → List Message → Message → Type 0
IsHeldBack receives delivered m =
    has_arrived m ≡ true → receives m.proc ≡ true → list_any (is_for m.proc) delivered ≡ true
