-- Places, their rows and columns on the NEWS grid, and their neighbours on its torus: Hillis 1985;
-- the numbering is ours.
use Rattle.std.specs.Prelude.{ℕ, ◌+◌, ◌-◌, ◌*◌, ◌/◌, ◌%◌, ◌^◌, ◌==◌, Option, Some, None, if◌then◌else◌}
use Rattle.cm_bits.specs.declared.place.Place.{Place}
use Rattle.cm_bits.specs.declared.plane.Dir.{Dir}
use Rattle.cm_bits.specs.declared.plane.Dir.TheVariants.{North, East, West, South}

-- of a cube of n dimensions: chips in one row of chips
abbrev pub chip_columns : ℕ → ℕ
chip_columns n = 2 ^ (n / 2)

-- rows of processors
abbrev pub rows : ℕ → ℕ
rows n = 4 * 2 ^ (n - n / 2)

-- columns of processors
abbrev pub columns : ℕ → ℕ
columns n = 4 * chip_columns n

-- the row of a place: a chip is four by four processors
abbrev pub row_of : ℕ → Place → ℕ
row_of n place = 4 * (place.chip / chip_columns n) + place.proc / 4

-- its column
abbrev pub column_of : ℕ → Place → ℕ
column_of n place = 4 * (place.chip % chip_columns n) + place.proc % 4

-- the place in a row and a column
abbrev pub place_at : ℕ → ℕ → ℕ → Place
place_at n row column = record {
  chip = row / 4 * chip_columns n + column / 4;
  proc = 4 * (row % 4) + column % 4;
}

-- the place one step on in a direction, round the torus: north is the lower row, west the lower column
unfoldable pub neighbour : ℕ → Dir → Place → Place
neighbour n North place = place_at n ((row_of n place + rows n - 1) % rows n) (column_of n place)
neighbour n South place = place_at n ((row_of n place + 1) % rows n) (column_of n place)
neighbour n West place = place_at n (row_of n place) ((column_of n place + columns n - 1) % columns n)
neighbour n East place = place_at n (row_of n place) ((column_of n place + 1) % columns n)

-- the direction back
abbrev pub opposite : Dir → Dir
opposite North = South
opposite South = North
opposite West = East
opposite East = West

-- the place whose neighbour in a direction this is
abbrev pub source : ℕ → Dir → Place → Place
source n dir place = neighbour n (opposite dir) place

-- the processor before this one on its chip: the first has none
abbrev pub predecessor : ℕ → Option ℕ
predecessor p = if p == 0 then None else Some (p - 1)
