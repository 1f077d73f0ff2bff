-- The header of an image: its parts in reading order, each with its check. Ours.
use Rattle.std.specs.Prelude.{ℕ, ◌^◌, ◌==◌, ◌&&◌, ◌||◌, Bool, List, ◌++◌, nat_lt, nat_le}
use Rattle.std.specs.Int.{w8, w32, w64}
use Rattle.cm_message.specs.Bytes.{number_bytes}
use Rattle.cm_image_format.specs.declared.fault.ImageFault.TheVariants.{Magic, Version, Shape, Value}
use Rattle.cm_image_format.specs.Reading.{Read, must, checked_number, followed, ◌⨾◌, made}

-- the four bytes `CM1I`
abbrev pub MAGIC : ℕ
MAGIC = 0x434d3149

-- a version: 1 of a plain routing, 2 of any other
abbrev pub is_version : ℕ → Bool
is_version k = k == 1 || k == 2

-- a cube has 0 to 12 dimensions
abbrev pub is_dimension : ℕ → Bool
is_dimension n = nat_le n 12

-- a router has room for 1 to 15 messages
abbrev pub is_room : ℕ → Bool
is_room cap = nat_le 1 cap && nat_le cap 15

-- a rule by its number, in an image of this version: in version 1 the first alone, in version 2 both
abbrev pub is_rule : ℕ → ℕ → Bool
is_rule version k = nat_lt k version

-- what the first eight bytes tell
pub record Head : Type 0 where
  pub version : ℕ
  pub dimension : ℕ
  pub room : ℕ
  pub rule : ℕ

-- magic, version, dimension, room, rule
unfoldable pub head_text : Head → List ℕ
head_text head = number_bytes w32 MAGIC
    ++ (number_bytes w8 head.version ++ (number_bytes w8 head.dimension ++ (number_bytes w8 head.room ++ number_bytes w8 head.rule)))

-- the same, where the dimension and the room pass these tests
abbrev pub shape_part : (ℕ → Bool) → (ℕ → Bool) → List ℕ → Read Head
shape_part dimension room =
    made (λ x. record { version = x.1.0; dimension = x.1.1.0; room = x.1.1.1.0; rule = x.1.1.1.1 })
    (checked_number w32 (must Magic (λ k. k == MAGIC))
    ⨾ followed (checked_number w8 (must Version is_version)) (λ version.
    checked_number w8 (must Shape dimension) ⨾ checked_number w8 (must Shape room) ⨾ checked_number w8 (must Shape (is_rule version))))

-- the counter
abbrev pub clock_part : List ℕ → Read ℕ
clock_part = checked_number w64 (must Value (λ k. nat_lt k (2 ^ 63)))

-- the header of a machine of these sizes: its first eight bytes, then the counter
abbrev pub header_part : ℕ → ℕ → List ℕ → Read (Head × ℕ)
header_part n cap = shape_part (λ k. is_dimension k && k == n) (λ k. is_room k && k == cap) ⨾ clock_part
