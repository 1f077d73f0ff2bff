-- What is offered to the routers of a machine: who offers a message in which petit cycle, and to whom. Ours.
use Rattle.std.specs.Prelude.{ℕ, ◌+◌, ◌-◌, ◌*◌, ◌/◌, ◌%◌, ◌^◌, ◌&&◌, Bool, nat_lt, if◌then◌else◌, List, slice_index}
use Rattle.std.specs.Int.{w32, reverse_bits}
use Rattle.lab_load.specs.declared.offers.Pattern.{Pattern}
use Rattle.lab_load.specs.declared.offers.Pattern.TheVariants.{Uniform, Transpose, Reversal, HotSpot, Own}
use Rattle.lab_load.specs.declared.offers.Load.{Load}
use Rattle.lab_fresh.specs.Draws.{draw_of}

-- how many processors a cube of n dimensions has
abbrev pub places : ℕ → ℕ
places n = 16 * 2 ^ n

-- the number of the draw by which a place offers in petit cycle t; the next one tells to whom
abbrev pub draw_number : ℕ → ℕ → ℕ
draw_number t place = 2 * (t * 65536 + place)

-- the processor of this place offers a message in petit cycle t
unfoldable pub offers : Load → ℕ → ℕ → Bool
offers load t place = nat_lt t load.until && nat_lt (draw_of load.seed (draw_number t place) % 1600) load.rate

-- the number of the draw by which an offer of petit cycle t goes by the pattern or to a place that is drawn
abbrev pub background_number : ℕ → ℕ → ℕ
background_number t place = 2 ^ 61 + (t * 65536 + place)

-- of a hundred messages so many go to a place that is drawn, whatever the pattern: this one is of these
abbrev pub is_background : Load → ℕ → ℕ → Bool
is_background load t place = nat_lt (draw_of load.seed (background_number t place) % 100) load.background

-- the pattern by which a message goes that this place offers in petit cycle t
abbrev pub pattern_for : Load → ℕ → ℕ → Pattern
pattern_for load t place = if is_background load t place then Uniform else load.pattern

-- the place that a message of this place goes to, where this was drawn for it: of a number of n + 4 bits
abbrev pub aimed : Pattern → List ℕ → ℕ → ℕ → ℕ → ℕ
aimed Uniform targets n drawn place = drawn
-- its lower half becomes the upper one
aimed Transpose targets n drawn place = place / 2 ^ ((n + 4) / 2) + place * 2 ^ (n + 4 - (n + 4) / 2)
-- its bits in reverse: those of 32 bits, less the lowest
aimed Reversal targets n drawn place = reverse_bits w32 place / 2 ^ (28 - n)
-- the processor of the same number on chip 0
aimed HotSpot targets n drawn place = place % 16
-- what the targets have for its place, or place 0
aimed Own targets n drawn place = slice_index targets place

-- the place that a message goes to which this place offers in petit cycle t
unfoldable pub target_of : Load → ℕ → ℕ → ℕ
target_of load t place =
    aimed (pattern_for load t place) load.targets.items load.dims (draw_of load.seed (draw_number t place + 1)) place
    % places load.dims
