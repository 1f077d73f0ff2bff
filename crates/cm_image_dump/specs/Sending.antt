-- What goes out of an image that is written piece by piece, and what that takes of memory: ours.
use Rattle.std.specs.Prelude.{◌≡◌, ℕ, ◌^◌, Bool, true, false, Option, Result, Ok, Err, List, [], ◌++◌, length, ◌≤◌}
use Rattle.std.specs.Prelude.{◌+◌, ◌*◌, ◌<◌, slice_index, vec_capacity}
use Rattle.std.specs.Int.{w64}
use Rattle.std.specs.Io.KnownBytes.{Appends}
use Rattle.cm_model.specs.Array.{chip_at}
use Rattle.cm_model.specs.Machine.{Machine}
use Rattle.cm_message.specs.Bytes.{number_bytes}
use Rattle.cm_image_format.specs.Header.{head_text}
use Rattle.cm_image_format.specs.Cuts.{head_of, routing_text}
use Rattle.cm_image_format.specs.Whole.{memory_plane_of}
use Rattle.cm_image_dump.specs.declared.sending.DumpFault.{DumpFault}
use Rattle.cm_image_dump.specs.declared.sending.DumpFault.TheVariants.{Write, Memory}
use Rattle.cm_image_dump.specs.declared.sending.DumpRoom.{DumpRoom}
use Rattle.cm_image_dump.specs.declared.sending.Near.{Near}
use Rattle.cm_image_dump.specs.declared.sending.Near.TheVariants.{Chips, Planes}
use Rattle.cm_image_dump.specs.Planes.{AreCounted, AreInUse}

-- what an image has before its chips
abbrev pub front_text : ℕ → ℕ → Machine → List ℕ
front_text n cap machine = head_text (head_of n cap machine.routing) ++ (number_bytes w64 machine.clock ++ routing_text machine.routing)

-- of these bytes all but the last went out, which are left
pub record GoesOut (held holds : Option (List ℕ)) (bytes left : List ℕ) : Type 0 where
  pub out : List ℕ
  pub went : Appends held holds out
  pub is : bytes ≡ out ++ left

-- a front of these bytes went out
pub record GoesOutInPart (held holds : Option (List ℕ)) (bytes : List ℕ) : Type 0 where
  pub left : List ℕ
  pub so : GoesOut held holds bytes left

-- whether a write failed
abbrev pub is_dump_write : Result (Unit {0}) DumpFault → Bool
is_dump_write (Ok done) = false
is_dump_write (Err Write) = true
is_dump_write (Err Memory) = false

-- room for 64 chips, or for their planes
abbrev pub IsNear : Near → Type 0
IsNear (Chips run) = length run ≡ 64
IsNear (Planes planes) = length planes.items ≡ 264192

-- the chip of this number, or its memory planes, at a place of what is near
abbrev pub StandsNear : Machine → ℕ → ℕ → Near → Type 0
StandsNear machine number place (Chips run) =
    (place < length run) × (chip_at run place ≡ chip_at machine.chips number)
StandsNear machine number place (Planes planes) =
    (place * 4128 + 4128 ≤ length planes.items) × ((a : ℕ) → a < 4096
    → slice_index planes.items (place * 4128 + a) ≡ memory_plane_of (chip_at machine.chips number) a)

-- so many chips, from this one on
abbrev pub StandNear : Machine → ℕ → ℕ → Near → Type 0
StandNear machine first some near = (c : ℕ) → c < some → StandsNear machine (first + c) c near

-- what the image of a machine is laid out in: nothing waits yet
pub record IsLaidOutFor (n : ℕ) (machine : Machine) (room : DumpRoom) : Type 0 where
  pub counted : AreCounted (2 ^ n) machine.chips 4096 room.counts.items
  pub in_use : AreInUse (2 ^ n) machine.chips 4096 room.addresses.items
  pub near : IsNear room.near
  pub empty : room.text.items ≡ []

-- what writing the image of a machine takes: there is room for all bytes that come to wait
pub record IsRoomOf (n : ℕ) (machine : Machine) (room : DumpRoom) : Type 0 where
  pub laid : IsLaidOutFor n machine room
  pub ample : 163840 ≤ vec_capacity room.text
