-- Worked values of the definitions, which the checker computes:
-- the blank image of one chip, and each change of it with its fault.
use Rattle.std.proofs.Common.{◌≡◌, ℕ, List, [], ◌∷◌, ◌++◌, take, set, replicate, map, Some, None, Ok, refl}
use Rattle.cm_model.specs.declared.rule.Rule.TheVariants.{First, Oldest}
use Rattle.cm_model.specs.Wiring.{plain_routing}
use Rattle.cm_message.specs.Bytes.{number_bytes}
use Rattle.cm_image_format.specs.declared.fault.ImageFault.TheVariants.{Short, Magic, Version, Shape, Order, Count}
use Rattle.cm_image_format.specs.declared.fault.ImageFault.TheVariants.{Value, TagTwice, Extra}
use Rattle.cm_image_format.specs.Reading.{number_at, many}
use Rattle.cm_image_format.specs.Header.{head_text}
use Rattle.cm_image_format.specs.Cuts.{head_of}
use Rattle.cm_image_format.specs.Image.{ChipImage, chip_part}
use Rattle.cm_image_format.specs.Whole.{Image, image_text, image_part, read_image, image_fault, read_shape}

-- ---- one chip, room for seven messages, all 0: 51 bytes

abbrev blank : List ℕ
blank = 0x43 ∷ 0x4d ∷ 0x31 ∷ 0x49 ∷ 1 ∷ 0 ∷ 7 ∷ replicate 44 0

abbrev blank_chip_image : ChipImage
blank_chip_image = record { flags = replicate 16 0; memory = []; messages = [] }

abbrev blank_image : Image
blank_image = record { clock = 0; routing = plain_routing; chips = blank_chip_image ∷ [] }

blank_is_written : image_text 0 7 blank_image ≡ blank
unfolding image_text head_text number_bytes
blank_is_written = refl

blank_is_read : image_part 0 7 blank ≡ Ok (blank_image, [])
unfolding image_part chip_part many number_at
blank_is_read = refl

shape_is_read : read_shape blank ≡ Ok (0, 7)
unfolding read_shape number_at
shape_is_read = refl

-- ---- one more part: memory plane 5 of bit 0 alone, and flag plane 15

abbrev one_plane : Image
one_plane = record {
  clock = 0;
  routing = plain_routing;
  chips =
      record { flags = set (replicate 16 0) 15 0x8001; memory = record { at = 5; plane = 1 } ∷ []; messages = [] } ∷ [];
}

abbrev one_plane_bytes : List ℕ
one_plane_bytes = take 46 blank ++ (0x80 ∷ 0x01 ∷ 0 ∷ 1 ∷ 0 ∷ 5 ∷ 0 ∷ 1 ∷ 0 ∷ [])

plane_is_written : image_text 0 7 one_plane ≡ one_plane_bytes
unfolding image_text head_text number_bytes
plane_is_written = refl

plane_is_read : image_part 0 7 one_plane_bytes ≡ Ok (one_plane, [])
unfolding image_part chip_part many number_at
plane_is_read = refl

-- ---- one message more: 73 bytes

abbrev example : Image
example = record {
  clock = 1;
  routing = plain_routing;
  chips = record {
    flags = set (replicate 16 0) 13 1;
    memory = record { at = 5; plane = 0x8001 } ∷ [];
    messages = record { rel = 0; proc = 5; payload = 0xdeadbeef; tag = record { chip = 0; proc = 0; birth = 0 } } ∷ [];
  } ∷ [];
}

abbrev example_bytes : List ℕ
example_bytes =
    take 8 blank ++ (0 ∷ 0 ∷ 0 ∷ 0 ∷ 0 ∷ 0 ∷ 0 ∷ 1 ∷ replicate 26 0 ++ (0 ∷ 1 ∷ 0 ∷ 0 ∷ 0 ∷ 0 ∷ [])
    ++ (0 ∷ 1 ∷ 0 ∷ 5 ∷ 0x80 ∷ 1 ∷ 1 ∷ 0 ∷ 0 ∷ 5 ∷ 0xde ∷ 0xad ∷ 0xbe ∷ 0xef ∷ replicate 11 0))

example_is_written : image_text 0 7 example ≡ example_bytes
unfolding image_text head_text number_bytes
example_is_written = refl

example_is_read : image_part 0 7 example_bytes ≡ Ok (example, [])
unfolding image_part chip_part many number_at
example_is_read = refl

-- ---- changes of the blank image, each with its fault

-- the two bytes of the count of planes, and what follows it
abbrev listing : List ℕ → List ℕ
listing bytes = take 48 blank ++ (bytes ++ (0 ∷ []))

abbrev changes : List (List ℕ)
changes =
    set blank 0 0 ∷ set blank 4 0 ∷ set blank 4 3 ∷ set blank 4 2
    ∷ set blank 5 13 ∷ set blank 5 1 ∷ set blank 6 6 ∷ set blank 7 1 ∷ set blank 8 0x80 ∷ set blank 33 1
    ∷ set (set blank 48 0x10) 49 1 ∷ set blank 50 8 ∷ (set blank 50 1 ++ replicate 18 0)
    ∷ listing (0 ∷ 1 ∷ 0 ∷ 0 ∷ 0 ∷ 0 ∷ []) ∷ listing (0 ∷ 1 ∷ 0x10 ∷ 0 ∷ 0 ∷ 1 ∷ [])
    ∷ listing (0 ∷ 2 ∷ 0 ∷ 5 ∷ 0 ∷ 1 ∷ 0 ∷ 5 ∷ 0 ∷ 1 ∷ [])
    ∷ take 50 blank ∷ take 9 blank ∷ (blank ++ 0 ∷ []) ∷ []

faults_of_changes : map (image_fault 0 7) changes
    ≡ Some Magic ∷ Some Version ∷ Some Version ∷ Some Count
    ∷ Some Shape ∷ Some Shape ∷ Some Shape ∷ Some Shape ∷ Some Value ∷ Some Value
    ∷ Some Count ∷ Some Count ∷ Some Value
    ∷ Some Order ∷ Some Value ∷ Some Order
    ∷ Some Short ∷ Some Short ∷ Some Extra ∷ []
unfolding read_image image_part chip_part many number_at
faults_of_changes = refl

-- ---- two chips, room for one message, the wire between them cut: 91 bytes of version 2

abbrev one_cut : Image
one_cut = record {
  clock = 0;
  routing = record { cuts = record { chip = 0; dim = 0 } ∷ []; rule = First };
  chips = blank_chip_image ∷ blank_chip_image ∷ [];
}

-- header and cuts: magic, version, dimension, room, rule, counter; then a count, and each chip and dimension
abbrev routed : ℕ → ℕ → ℕ → List ℕ → List ℕ
routed n cap rule cuts = (0x43 ∷ 0x4d ∷ 0x31 ∷ 0x49 ∷ 2 ∷ n ∷ cap ∷ rule ∷ []) ++ (replicate 8 0 ++ cuts)

abbrev one_cut_bytes : List ℕ
one_cut_bytes = routed 1 1 0 (0 ∷ 1 ∷ 0 ∷ 0 ∷ 0 ∷ []) ++ replicate 70 0

cut_is_written : image_text 1 1 one_cut ≡ one_cut_bytes
unfolding image_text head_text number_bytes
cut_is_written = refl

cut_is_read : image_part 1 1 one_cut_bytes ≡ Ok (one_cut, [])
unfolding image_part chip_part many number_at
cut_is_read = refl

-- chip 1 is not the lower end; there is no dimension 1; two wires are too many; the second pair lies below the first
faults_of_cuts :
    map (image_fault 1 1)
    (routed 1 1 0 (0 ∷ 1 ∷ 0 ∷ 1 ∷ 0 ∷ []) ∷ routed 1 1 0 (0 ∷ 1 ∷ 0 ∷ 0 ∷ 1 ∷ []) ∷ routed 1 1 0 (0 ∷ 2 ∷ []) ∷ [])
    ++ map (image_fault 2 1) (routed 2 1 0 (0 ∷ 2 ∷ 0 ∷ 0 ∷ 1 ∷ 0 ∷ 0 ∷ 0 ∷ []) ∷ [])
    ≡ Some Value ∷ Some Value ∷ Some Count ∷ Some Order ∷ []
unfolding read_image image_part number_at many
faults_of_cuts = refl

-- ---- the second rule

rule_is_written : head_text (head_of 1 7 (record { cuts = []; rule = Oldest }))
    ≡ 0x43 ∷ 0x4d ∷ 0x31 ∷ 0x49 ∷ 2 ∷ 1 ∷ 7 ∷ 1 ∷ []
unfolding head_text number_bytes
rule_is_written = refl

-- there is no rule 2; no count of cuts; under the second rule no wire need be cut; under the first one has to be
faults_of_rules :
    map (image_fault 0 7)
    (routed 0 7 2 [] ∷ routed 0 7 1 (replicate 35 0) ∷ routed 0 7 1 (replicate 37 0)
    ∷ routed 0 7 0 (replicate 35 0) ∷ [])
    ≡ Some Shape ∷ Some Short ∷ None ∷ Some Count ∷ []
unfolding read_image image_part chip_part number_at many
faults_of_rules = refl

-- ---- two chips, each with one message of zero bytes, after one petit cycle: 122 bytes, one tag twice

abbrev one_message : List ℕ
one_message = replicate 34 0 ++ (1 ∷ replicate 18 0)

abbrev two_alike : List ℕ
two_alike = (0x43 ∷ 0x4d ∷ 0x31 ∷ 0x49 ∷ 1 ∷ 1 ∷ 7 ∷ replicate 8 0 ++ (1 ∷ [])) ++ (one_message ++ one_message)

one_tag_twice : image_fault 1 7 two_alike ≡ Some TagTwice
unfolding read_image image_part chip_part many number_at
one_tag_twice = refl

-- the tags come before what is too much
twice_and_extra : image_fault 1 7 (two_alike ++ 0 ∷ []) ≡ Some TagTwice
unfolding read_image image_part chip_part many number_at
twice_and_extra = refl
