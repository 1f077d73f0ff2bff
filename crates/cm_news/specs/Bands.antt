-- What comes in at bands of whole rows of chips, where an edge has what comes from outside: Hillis 1985;
-- the numbering is ours.
use Rattle.std.specs.Prelude.{◌≡◌, ℕ, ◌+◌, ◌-◌, ◌*◌, ◌/◌, ◌%◌, ◌^◌, ◌<◌, ◌≤◌, ◌==◌, ◌&&◌, Bool, false, not, List}
use Rattle.std.specs.Prelude.{length, nat_le, nat_lt}
use Rattle.std.specs.Prelude.{slice_index, slice_index_or, if◌then◌else◌}
use Rattle.cm_bits.specs.Bit.{bit}
use Rattle.cm_bits.specs.declared.place.Place.{Place}
use Rattle.cm_bits.specs.declared.plane.Dir.{Dir}
use Rattle.cm_bits.specs.declared.plane.Dir.TheVariants.{North, East, West, South}
use Rattle.cm_model.specs.Chip.{IsPlane}
use Rattle.cm_model.specs.Each.{tabulate}
use Rattle.cm_model.specs.Place.{chip_columns, column_of, source}
use Rattle.cm_news.specs.Moves.{is_entry, one_back, bit_along_edge}

-- so many chips are whole rows of chips of a cube of n dimensions
abbrev pub AreWholeRows : ℕ → ℕ → Type 0
AreWholeRows n count = (rows : ℕ) × (count ≡ rows * chip_columns n)

-- over its edge something comes in at a band of so many chips: northward or southward, unless these are all
abbrev pub is_open : ℕ → Dir → ℕ → Bool
is_open n North count = not (count == 2 ^ n)
is_open n South count = not (count == 2 ^ n)
is_open n East count = false
is_open n West count = false

-- the bits of an edge, four of each column of chips
abbrev pub edge_bits : List ℕ → List Bool
edge_bits edge = tabulate 0 (4 * length edge) (λ column. bit (slice_index edge (column / 4)) (column % 4))

-- the bit that comes in at a place of a band that begins with this chip: of a plane for each chip where it comes from
-- within, else the edge's of that column
abbrev pub bit_for : ℕ → Dir → ℕ → List ℕ → List ℕ → Place → Bool
bit_for n dir first planes edge place =
    if nat_le first (source n dir place).chip && nat_lt (source n dir place).chip (first + length planes)
    then bit (slice_index planes ((source n dir place).chip - first)) (source n dir place).proc
    else slice_index_or (edge_bits edge) (column_of n place) false

-- ---- a row of chips at the edge

-- the plane has what comes in at a chip from its own plane and from the edge
abbrev pub IsEntered : Dir → ℕ → ℕ → ℕ → Type 0
IsEntered dir own edge plane =
    IsPlane plane (λ p. if is_entry dir p then bit edge (bit_along_edge dir p) else bit own (one_back dir p))

-- so at each chip from a place on, and the others are as they were
pub record AreEntered (dir : Dir) (planes : List ℕ) (from : ℕ) (edge old new : List ℕ) : Type 0 where
  pub each : (k : ℕ) → k < length edge
      → IsEntered dir (slice_index planes (from + k)) (slice_index edge k) (slice_index new (from + k))
  pub below : (i : ℕ) → i < from → slice_index new i ≡ slice_index old i
  pub above : (i : ℕ) → from + length edge ≤ i → slice_index new i ≡ slice_index old i
