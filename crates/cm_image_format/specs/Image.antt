-- The chips of an image: their parts in reading order, each with its check. Ours.
use Rattle.std.specs.Prelude.{ℕ, ◌+◌, ◌==◌, ◌||◌, not, List, ◌++◌, Some, None, length, nat_lt, nat_le, if◌then◌else◌}
use Rattle.std.specs.List.{flat_map}
use Rattle.std.specs.Int.{w8, w16, w32, w64}
use Rattle.cm_model.specs.declared.message.Message.{Message}
use Rattle.cm_message.specs.Bytes.{number_bytes, message_text}
use Rattle.cm_image_format.specs.declared.fault.ImageFault.TheVariants.{Order, Count, Value}
use Rattle.cm_image_format.specs.Reading.{Read, Check, must, number_at, checked_number, ◌⨾◌, made, many, counted}
use Rattle.cm_image_format.specs.Cuts.{chip_number_part}

-- a memory plane that is listed: its address, and its bits
pub record Listed : Type 0 where
  pub at : ℕ
  pub plane : ℕ

-- what an image has of a chip: its flag planes by number, its memory planes that are not 0,
-- and its messages from the front
pub record ChipImage : Type 0 where
  pub flags : List ℕ
  pub memory : List Listed
  pub messages : List Message

-- ---- a chip

-- the plane of flag f as it is read: that of flag 8, ZERO, must be 0
abbrev pub flag_part : ℕ → List ℕ → Read ℕ
flag_part f = checked_number w16 (must Value (λ plane. not (f == 8) || plane == 0))

-- the address lies below 4096, and not below `least`, which is one more than the address before
abbrev pub address_fault : ℕ → Check
address_fault least at = if nat_lt 4095 at then Some Value else if nat_lt at least then Some Order else None

-- how a memory plane is written: its address, then its bits
abbrev pub listed_text : Listed → List ℕ
listed_text x = number_bytes w16 x.at ++ number_bytes w16 x.plane

-- a memory plane as it is read: its address, which `address_fault` judges, and bits that are not all 0
abbrev pub listed_part : ℕ → List ℕ → Read Listed
listed_part least = made (λ x. record { at = x.0; plane = x.1 })
    (checked_number w16 (address_fault least) ⨾ checked_number w16 (must Order (λ plane. not (plane == 0))))

-- the memory planes of a chip as they are read: a count of at most 4096, and as many planes
abbrev pub memory_part : List ℕ → Read (List Listed)
memory_part = counted w16 (must Count (λ k. nat_le k 4096)) (λ least x. x.at + 1) listed_part 0

-- the number of a processor as it is read: it is below 16
abbrev pub processor_part : List ℕ → Read ℕ
processor_part = checked_number w8 (must Value (λ k. nat_lt k 16))

-- a message as it is read: its chips are chips of the cube, and its birth lies before the counter
abbrev pub message_part : ℕ → ℕ → List ℕ → Read Message
message_part n clock =
    made (λ x. record {
      rel = x.0;
      proc = x.1.0;
      payload = x.1.1.0;
      tag = record { chip = x.1.1.1.0; proc = x.1.1.1.1.0; birth = x.1.1.1.1.1 };
    })
    (chip_number_part n ⨾ processor_part ⨾ number_at w32 ⨾ chip_number_part n ⨾ processor_part
    ⨾ checked_number w64 (must Value (λ k. nat_lt k clock)))

-- how a chip is written: its flag planes, its memory planes behind their count, its messages behind theirs
abbrev pub chip_text : ChipImage → List ℕ
chip_text chip =
    flat_map (number_bytes w16) chip.flags ++ ((number_bytes w16 (length chip.memory) ++ flat_map listed_text chip.memory)
    ++ (number_bytes w8 (length chip.messages) ++ flat_map message_text chip.messages))

-- the sixteen flag planes of a chip as they are read, that of flag 0 first
abbrev pub flags_part : List ℕ → Read (List ℕ)
flags_part = many (λ f plane. f + 1) flag_part 16 0

-- the messages of a chip as they are read: a count of at most the router's room, and as many messages
abbrev pub messages_part : ℕ → ℕ → ℕ → List ℕ → Read (List Message)
messages_part n cap clock = counted w8 (must Count (λ k. nat_le k cap)) (λ i m. i) (λ i. message_part n clock) 0

-- a chip as it is read: its flag planes, its memory planes, its messages
unfoldable pub chip_part : ℕ → ℕ → ℕ → List ℕ → Read ChipImage
chip_part n cap clock =
    made (λ x. record { flags = x.0; memory = x.1.0; messages = x.1.1 })
    (flags_part ⨾ memory_part ⨾ messages_part n cap clock)
