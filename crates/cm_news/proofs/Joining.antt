-- What comes in at a chip: what stays of its own plane, and the edge of the chip before it.
use Rattle.std.proofs.Common.{◌≡◌, ℕ, ◌^◌, ◌<◌, ◌||◌, Bool, true, false, List, None, Some, if◌then◌else◌, get_or, refl}
use Rattle.std.proofs.Common.{ap, ◌∙◌, sym, arith}
use Rattle.std.proofs.Math.Bool.{or-false}
use Rattle.cm_bits.specs.Bit.{bit}
use Rattle.cm_bits.specs.declared.plane.Dir.{Dir}
use Rattle.cm_bits.specs.declared.plane.Dir.TheVariants.{North, East, West, South}
use Rattle.cm_model.specs.Place.{source}
use Rattle.cm_model.specs.Chip.{plane_bit}
use Rattle.cm_news.specs.Moves.{is_entry, one_back, sender_on_chip, at_edge, bit_along_edge, corner, bit_of_place}
use Rattle.cm_news.proofs.Sources.{steps_are_the_torus}

pub bit_along_edge-lt : (dir : Dir) (p : ℕ) → p < 16 → bit_along_edge dir p < 4
bit_along_edge-lt North p h = omega arith
bit_along_edge-lt South p h = omega arith
bit_along_edge-lt West p h = omega arith
bit_along_edge-lt East p h = omega arith

-- the edge stands for the plane of the chip before
pub joined : (n : ℕ) (dir : Dir) (chip : ℕ) (planes : List ℕ) (edge : ℕ) → chip < 2 ^ n
    → ((i : ℕ) → i < 4 → bit edge i
    ≡ bit (get_or planes (source n dir (record { chip = chip; proc = corner dir })).chip 0) (at_edge dir i))
    → (p : ℕ) → p < 16
    → plane_bit (get_or planes chip 0) (sender_on_chip dir p) || (if is_entry dir p then bit edge (bit_along_edge dir p) else false)
    ≡ bit_of_place planes (source n dir (record { chip = chip; proc = p }))
joined n dir chip planes edge there edges p h = by (is_entry dir p) refl where
  by : (entry : Bool) → is_entry dir p ≡ entry
      → plane_bit (get_or planes chip 0) (if entry then None else Some (one_back dir p))
      || (if entry then bit edge (bit_along_edge dir p) else false)
      ≡ bit_of_place planes (source n dir (record { chip = chip; proc = p }))
  by true entry = edges (bit_along_edge dir p) (bit_along_edge-lt dir p h)
      ∙ sym (ap (bit_of_place planes) ((steps_are_the_torus n dir chip p there h).edge entry))
  by false entry = or-false (bit (get_or planes chip 0) (one_back dir p))
      ∙ sym (ap (bit_of_place planes) ((steps_are_the_torus n dir chip p there h).inside entry))
