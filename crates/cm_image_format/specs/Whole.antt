-- The image of a machine: its text, and what bytes are read as. Ours.
use Rattle.std.specs.Prelude.{ℕ, ◌^◌, ◌==◌, not, List, [], ◌∷◌, ◌++◌, map, fold, Option, Result, Ok, Err, if◌then◌else◌}
use Rattle.std.specs.List.{flat_map, filter}
use Rattle.std.specs.Int.{w64}
use Rattle.cm_bits.specs.Bit.{bit}
use Rattle.cm_model.specs.declared.message.Message.{Message}
use Rattle.cm_model.specs.Each.{tabulate}
use Rattle.cm_model.specs.Processor.{Processor, memory_bit, flag}
use Rattle.cm_model.specs.Chip.{each_processor, processor_at, plane_number}
use Rattle.cm_model.specs.Array.{each_chip, chip_at, nth_or_nil}
use Rattle.cm_model.specs.Wiring.{Routing}
use Rattle.cm_model.specs.Machine.{Machine}
pub use Rattle.cm_model.specs.Unlogged.{has_tag_twice}
use Rattle.cm_message.specs.Bytes.{number_bytes}
use Rattle.cm_image_format.specs.declared.fault.ImageFault.{ImageFault}
use Rattle.cm_image_format.specs.declared.fault.ImageFault.TheVariants.{TagTwice, Extra}
use Rattle.cm_image_format.specs.Reading.{Read, ◌>>=◌, followed, ◌⨾◌, made, many, fault_in}
use Rattle.cm_image_format.specs.Header.{is_dimension, is_room, head_text, shape_part, header_part}
use Rattle.cm_image_format.specs.Cuts.{head_of, routing_text, routing_part}
use Rattle.cm_image_format.specs.Image.{Listed, ChipImage, chip_text, chip_part}

-- ---- a chip

-- the planes that are not 0
abbrev pub without_zeros : List Listed → List Listed
without_zeros planes = filter (λ x. not (x.plane == 0)) planes

-- the plane of a flag: bit p is that of processor p
abbrev pub flag_plane_of : List Processor → ℕ → ℕ
flag_plane_of chip f = plane_number (λ p. flag (processor_at chip p) f)

-- the plane of a memory address: bit p is that of processor p
abbrev pub memory_plane_of : List Processor → ℕ → ℕ
memory_plane_of chip address = plane_number (λ p. memory_bit (processor_at chip p) address)

-- what its image has of a chip with this buffer
unfoldable pub image_of_chip : List Processor → List Message → ChipImage
image_of_chip chip buffer = record {
  flags = tabulate 0 16 (flag_plane_of chip);
  memory = without_zeros (tabulate 0 4096 (λ address. record { at = address; plane = memory_plane_of chip address }));
  messages = buffer;
}

-- a listed plane, if it is of this address, else the one that was known
abbrev pub plane_or : ℕ → ℕ → Listed → ℕ
plane_or address plane x = if x.at == address then x.plane else plane

-- the plane of an address: 0 where none is listed
unfoldable pub plane_at : List Listed → ℕ → ℕ
plane_at listed address = fold (plane_or address) 0 listed

-- the planes of all addresses
abbrev pub planes_of : List Listed → List ℕ
planes_of listed = tabulate 0 4096 (plane_at listed)

-- the chip of an image
unfoldable pub chip_from : ChipImage → List Processor
chip_from image = each_processor (λ p. record {
  memory = map (λ plane. bit plane p) (planes_of image.memory);
  flags = map (λ plane. bit plane p) image.flags;
})

-- ---- a machine

-- the counter, how the machine routes, and by number what there is of each chip
pub record Image : Type 0 where
  pub clock : ℕ
  pub routing : Routing
  pub chips : List ChipImage

-- what an image has of a machine of 2 ^ n chips: all but the logs
abbrev pub image_of : ℕ → Machine → Image
image_of n machine = record {
  clock = machine.clock;
  routing = machine.routing;
  chips = each_chip n (λ c. image_of_chip (chip_at machine.chips c) (nth_or_nil machine.buffers c));
}

-- how an image is written: the head, the counter, the cut wires, and chip after chip
unfoldable pub image_text : ℕ → ℕ → Image → List ℕ
image_text n cap image = head_text (head_of n cap image.routing)
    ++ (number_bytes w64 image.clock ++ (routing_text image.routing ++ flat_map chip_text image.chips))

-- the one text of a machine: its logs are not in it
abbrev pub text_of : ℕ → ℕ → Machine → List ℕ
text_of n cap machine = image_text n cap (image_of n machine)

-- the machine of an image, with no event
unfoldable pub machine_of_image : Image → Machine
machine_of_image image = record {
  chips = map chip_from image.chips;
  buffers = map (λ chip. chip.messages) image.chips;
  logs = map (λ chip. []) image.chips;
  clock = image.clock;
  routing = image.routing;
}

-- all messages of an image
abbrev pub messages_in : List ChipImage → List Message
messages_in chips = flat_map (λ chip. chip.messages) chips

-- header, routing and chips
unfoldable pub image_part : ℕ → ℕ → List ℕ → Read Image
image_part n cap =
    made (λ x. record { clock = x.0.1; routing = x.1.0; chips = x.1.1 })
    (followed (header_part n cap) (λ header.
    routing_part n header.0 ⨾ many (λ i chip. i) (λ i. chip_part n cap header.1) (2 ^ n) 0))

-- what comes after the last chip: tags, and the end
abbrev pub ended : Image → List ℕ → Result Machine ImageFault
ended image [] = if has_tag_twice (messages_in image.chips) then Err TagTwice else Ok (machine_of_image image)
ended image (byte ∷ bytes) = if has_tag_twice (messages_in image.chips) then Err TagTwice else Err Extra

-- the machine that bytes are the text of, or the earliest fault in reading order
unfoldable pub read_image : ℕ → ℕ → List ℕ → Result Machine ImageFault
read_image n cap bytes = do
  image ← image_part n cap bytes
  ended image.0 image.1

-- the earliest fault of bytes, if there is one
abbrev pub image_fault : ℕ → ℕ → List ℕ → Option ImageFault
image_fault n cap bytes = fault_in (read_image n cap bytes)

-- the fault of the header alone, if it has one
abbrev pub header_fault : ℕ → ℕ → List ℕ → Option ImageFault
header_fault n cap bytes = fault_in (header_part n cap bytes)

-- dimension and room as the first eight bytes tell them
unfoldable pub read_shape : List ℕ → Result (ℕ × ℕ) ImageFault
read_shape bytes = do
  shape ← shape_part is_dimension is_room bytes
  Ok (shape.0.dimension, shape.0.room)
