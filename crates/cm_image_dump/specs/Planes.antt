-- Planes by address, and the part of an image that tells the planes below a number: ours.
use Rattle.std.specs.Prelude.{◌≡◌, ℕ, ◌<◌, ◌≤◌, ◌==◌, List, [], length, slice_index, if◌then◌else◌}
use Rattle.std.specs.List.{flat_map}
use Rattle.std.specs.Int.{w16}
use Rattle.cm_model.specs.Each.{tabulate}
use Rattle.cm_model.specs.Processor.{Processor}
use Rattle.cm_model.specs.Array.{Chips, chip_at, nth_or_nil}
use Rattle.cm_model.specs.Machine.{Machine}
use Rattle.cm_message.specs.Bytes.{number_bytes}
use Rattle.cm_image_format.specs.Image.{Listed, listed_text, chip_text}
use Rattle.cm_image_format.specs.Whole.{without_zeros, flag_plane_of, memory_plane_of, image_of_chip}

-- the flag planes of a chip below a number
unfoldable pub flags_text : List Processor → ℕ → List ℕ
flags_text chip count = flat_map (number_bytes w16) (tabulate 0 count (flag_plane_of chip))

-- the memory planes of a chip below an address, without those that are 0
unfoldable pub planes_below : List Processor → ℕ → List Listed
planes_below chip count =
    without_zeros (tabulate 0 count (λ address. record { at = address; plane = memory_plane_of chip address }))

-- how they are listed
unfoldable pub listed_below : List Processor → ℕ → List ℕ
listed_below chip count = flat_map listed_text (planes_below chip count)

-- how the plane of an address is listed: a plane that is 0 is not
abbrev pub plane_listing : ℕ → ℕ → List ℕ
plane_listing address plane = if plane == 0 then [] else listed_text (record { at = address; plane = plane })

-- how that of an address is listed, if it is
abbrev pub listing_at : List Processor → ℕ → List ℕ
listing_at chip address = plane_listing address (memory_plane_of chip address)

-- those of a list below an address, one after another
unfoldable pub listings : List ℕ → ℕ → List ℕ
listings planes count =
    flat_map (λ address. plane_listing address (slice_index planes address)) (tabulate 0 count (λ address. address))

-- addresses below this one, at which alone planes of so many chips are listed
pub record AreInUse (count : ℕ) (chips : Chips) (below : ℕ) (addresses : List ℕ) : Type 0 where
  pub few : length addresses ≤ below
  pub within : (i : ℕ) → i < length addresses → slice_index addresses i < below
  pub listed : (c : ℕ) → c < count
      → listed_below (chip_at chips c) below ≡ flat_map (listing_at (chip_at chips c)) addresses

-- by chip, how many planes below an address are listed
pub record AreCounted (count : ℕ) (chips : Chips) (below : ℕ) (counts : List ℕ) : Type 0 where
  pub long : length counts ≡ count
  pub each : (c : ℕ) → c < count → slice_index counts c ≡ length (planes_below (chip_at chips c) below)

-- what an image has of so many chips of a machine, from the first on
abbrev pub chips_text : Machine → ℕ → ℕ → List ℕ
chips_text machine first count =
    flat_map chip_text
    (tabulate first count (λ c. image_of_chip (chip_at machine.chips c) (nth_or_nil machine.buffers c)))
