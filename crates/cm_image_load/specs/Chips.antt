-- What an image has of chips, put into a machine: ours.
use Rattle.std.specs.Prelude.{◌≡◌, ℕ, ◌+◌, ◌-◌, ◌≤◌, ◌<◌, ◌^◌, Bool, true, false, List, [], ◌∷◌, Result, Ok, Err}
use Rattle.std.specs.Prelude.{fold, length, slice_set, replicate}
use Rattle.cm_model.specs.declared.message.Message.{Message}
use Rattle.cm_model.specs.Chip.{blank_chip}
use Rattle.cm_model.specs.Array.{chip_at, nth_or_nil}
use Rattle.cm_model.specs.Wiring.{Routing}
use Rattle.cm_model.specs.Machine.{Machine, blank_machine}
use Rattle.cm_model.specs.Unlogged.{standing_messages, has_tag_twice}
use Rattle.cm_element.specs.Planes.{chip_of}
use Rattle.cm_array.specs.Pokes.{machine_with_message}
use Rattle.cm_image_format.specs.declared.fault.ImageFault.{ImageFault}
use Rattle.cm_image_format.specs.declared.fault.ImageFault.TheVariants.{TagTwice, Extra}
use Rattle.cm_image_format.specs.Reading.{Read, made, many}
use Rattle.cm_image_format.specs.Header.{Head, header_part}
use Rattle.cm_image_format.specs.Cuts.{routing_part}
use Rattle.cm_image_format.specs.Image.{Listed, ChipImage, chip_part}
use Rattle.cm_image_format.specs.Whole.{chip_from, machine_of_image}

-- the planes with the one that is listed at its address
abbrev pub put_plane : List ℕ → Listed → List ℕ
put_plane planes x = slice_set planes x.at x.plane

-- the machine with a chip of these planes, of memory and of flags
abbrev pub with_chip : ℕ → Machine → List ℕ → List ℕ → Machine
with_chip c machine memory flags = record machine { chips = slice_set machine.chips c (chip_of memory flags) }

-- the machine with these flag planes in a chip, whose memory is 0
abbrev pub with_flags : ℕ → Machine → List ℕ → Machine
with_flags c machine flags = with_chip c machine (replicate 4096 0) flags

-- the machine with a message more at a chip
abbrev pub with_message : ℕ → Machine → Message → Machine
with_message c machine m = machine_with_message machine c m

-- the machine with what an image has of a chip
unfoldable pub with_chip_image : ℕ → Machine → ChipImage → Machine
with_chip_image c machine image = record machine {
  chips = slice_set machine.chips c (chip_from image);
  buffers = slice_set machine.buffers c image.messages;
}

-- of so many chips and buffers nothing was put into those from this one on
pub record IsBlankFrom (n c : ℕ) (machine : Machine) : Type 0 where
  pub chip_count : length machine.chips ≡ 2 ^ n
  pub buffer_count : length machine.buffers ≡ 2 ^ n
  pub chips : (d : ℕ) → c ≤ d → d < 2 ^ n → chip_at machine.chips d ≡ blank_chip
  pub buffers : (d : ℕ) → c ≤ d → d < 2 ^ n → nth_or_nil machine.buffers d ≡ []

-- the blank machine at a count of petit cycles, which routes so
abbrev pub blank_at : ℕ → ℕ → Routing → Machine
blank_at n clock routing = record (blank_machine n) { clock = clock; routing = routing }

-- all chips of an image, as they stand behind its header
abbrev pub chips_part : ℕ → ℕ → ℕ → List ℕ → Read (List ChipImage)
chips_part n cap clock = many (λ i chip. i) (λ i. chip_part n cap clock) (2 ^ n) 0

-- the machine of chips that were read behind a counter and a routing
abbrev pub machine_of_chips : ℕ → Routing → List ChipImage → Machine
machine_of_chips clock routing chips = machine_of_image (record { clock = clock; routing = routing; chips = chips })

-- a machine and how many of its chips were put in, with one chip more
abbrev pub put_chip : Machine × ℕ → ChipImage → Machine × ℕ
put_chip s image = (with_chip_image s.1 s.0 image, s.1 + 1)

-- a machine that has the chips before this one, with those that bytes have from this one on
abbrev pub chips_onto : ℕ → ℕ → ℕ → ℕ → Machine → List ℕ → Read (Machine × ℕ)
chips_onto n cap clock c machine = made (λ chips. fold put_chip (machine, c) chips)
    (many (λ i chip. i) (λ i. chip_part n cap clock) (2 ^ n - c) 0)

-- of bytes the header and the cut wires are read, and others come after them; the machine has no more than these yet
pub record IsBegun (n cap : ℕ) (header : Head × ℕ) (bytes after : List ℕ) (machine : Machine) : Type 0 where
  pub front : List ℕ
  pub header_is : header_part n cap bytes ≡ Ok (header, front)
  pub routing_is : routing_part n header.0 front ≡ Ok (machine.routing, after)
  pub blank : machine ≡ blank_at n header.1 machine.routing

-- of a whole image with this header the rest begins with this chip, and the machine has what stands before
pub record IsReadTo (n cap : ℕ) (header : Head × ℕ) (c : ℕ) (machine : Machine) (rest whole : List ℕ) : Type 0 where
  pub front : List ℕ
  pub chips : List ℕ
  pub routing : Routing
  pub header_is : header_part n cap whole ≡ Ok (header, front)
  pub routing_is : routing_part n header.0 front ≡ Ok (routing, chips)
  pub same : chips_onto n cap header.1 c machine rest
      ≡ chips_onto n cap header.1 0 (blank_at n header.1 routing) chips

-- a machine whose messages have a tag twice or not, and these bytes are left behind the last chip of its image
abbrev pub load_end : Bool → Machine → List ℕ → Result Machine ImageFault
load_end true machine rest = Err TagTwice
load_end false machine [] = Ok machine
load_end false machine (byte ∷ bytes) = Err Extra

-- what an image is read as, of whose chips this machine was built, and behind whose last chip these bytes are left
abbrev pub ended_with : Machine → List ℕ → Result Machine ImageFault
ended_with machine rest = load_end (has_tag_twice (standing_messages machine)) machine rest
