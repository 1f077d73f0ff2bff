-- A message as eighteen bytes, the highest byte of a number first. Ours.
use Rattle.std.specs.Prelude.{ℕ, List, ◌++◌, Option, Some, None, drop, slice_index, nat_lt, ◌&&◌, if◌then◌else◌}
use Rattle.std.specs.Int.{Width, w8, w16, w32, w64, to_be_bytes, from_be_bytes}
use Rattle.cm_model.specs.declared.message.Message.{Message}

-- the bytes of a number of this width, the highest first
unfoldable pub number_bytes : Width → ℕ → List ℕ
number_bytes w n = to_be_bytes w n

-- relative address, processor, payload; then origin chip, origin processor, birth
abbrev pub message_text : Message → List ℕ
message_text m =
    number_bytes w16 m.rel ++ (number_bytes w8 m.proc ++ (number_bytes w32 m.payload
    ++ (number_bytes w16 m.tag.chip ++ (number_bytes w8 m.tag.proc ++ number_bytes w64 m.tag.birth))))

-- the number of this width that begins at this place
unfoldable pub number_from : Width → ℕ → List ℕ → ℕ
number_from w at bytes = from_be_bytes w (drop at bytes)

-- the relative address of a message: bytes 0 and 1
abbrev pub rel_in : List ℕ → ℕ
rel_in bytes = number_from w16 0 bytes

-- the number of the processor that a message goes to: byte 2
abbrev pub proc_in : List ℕ → ℕ
proc_in bytes = slice_index bytes 2

-- the payload of a message: bytes 3 to 6
abbrev pub payload_in : List ℕ → ℕ
payload_in bytes = number_from w32 3 bytes

-- the number of the chip that sent a message: bytes 7 and 8
abbrev pub origin_chip_in : List ℕ → ℕ
origin_chip_in bytes = number_from w16 7 bytes

-- the number of the processor that sent a message: byte 9
abbrev pub origin_proc_in : List ℕ → ℕ
origin_proc_in bytes = slice_index bytes 9

-- what the counter was when a message was taken in: bytes 10 to 17
abbrev pub birth_in : List ℕ → ℕ
birth_in bytes = number_from w64 10 bytes

-- the message of eighteen bytes, where both processors are below 16
unfoldable pub message_of : List ℕ → Option Message
message_of bytes =
    if nat_lt (proc_in bytes) 16 && nat_lt (origin_proc_in bytes) 16
    then Some (record {
      rel = rel_in bytes;
      proc = proc_in bytes;
      payload = payload_in bytes;
      tag = record { chip = origin_chip_in bytes; proc = origin_proc_in bytes; birth = birth_in bytes };
    })
    else None
