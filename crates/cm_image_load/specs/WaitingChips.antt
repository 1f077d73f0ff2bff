-- Chips that wait for their places in a machine, and planes of all addresses that are listed: ours.
use Rattle.std.specs.Prelude.{◌≡◌, ℕ, ◌+◌, ◌*◌, ◌-◌, ◌<◌, ◌≤◌, List, Ok, drop, length, slice_index}
use Rattle.cm_model.specs.Array.{Chips}
use Rattle.cm_model.specs.Machine.{Machine}
use Rattle.cm_array.specs.Pokes.{machine_with_chips}
use Rattle.cm_image_format.specs.Image.{listed_part}

-- planes that lie chip by chip, of at most 256 chips, with room for all of them
pub record AreWaitingPlanes (planes : List ℕ) (capacity : ℕ) (flags : List ℕ) (flags_capacity : ℕ) (count : ℕ) : Type 0 where
  pub few : count ≤ 256
  pub memory : count * 4128 ≤ length planes
  pub room : 256 * 4128 ≤ capacity
  pub flag_words : count * 16 ≤ length flags
  pub flag_room : 256 * 16 ≤ flags_capacity
  pub zero : (c : ℕ) → c < count → slice_index flags (c * 16 + 8) ≡ 0

-- the machine with chips that waited in their places, which end before this one
abbrev pub with_waiting : ℕ → Machine → Chips → Machine
with_waiting end machine chips = machine_with_chips machine (end - length chips) chips

-- bytes list the planes of so many addresses, one after another
abbrev pub AreListedFrom : List ℕ → ℕ → (ℕ → ℕ) → Type 0
AreListedFrom bytes count plane = (a : ℕ) → a < count
    → listed_part a (drop (4 * a) bytes) ≡ Ok (record { at = a; plane = plane a }, drop (4 * (a + 1)) bytes)
