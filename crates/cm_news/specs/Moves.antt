-- Steps on the grid as one chip sees them, four by four processors: Hillis 1985; the numbering is ours.
use Rattle.std.specs.Prelude.{ℕ, ◌+◌, ◌-◌, ◌*◌, ◌/◌, ◌%◌, ◌==◌, Bool, List}
use Rattle.std.specs.Prelude.{Option, Some, None, slice_index, if◌then◌else◌}
use Rattle.cm_bits.specs.Bit.{bit}
use Rattle.cm_bits.specs.declared.place.Place.{Place}
use Rattle.cm_bits.specs.declared.plane.Dir.{Dir}
use Rattle.cm_bits.specs.declared.plane.Dir.TheVariants.{North, East, West, South}

-- the row of a processor on its chip
abbrev pub row : ℕ → ℕ
row p = p / 4

-- the column of a processor on its chip
abbrev pub column : ℕ → ℕ
column p = p % 4

-- the number of the processor in a row and a column of its chip
abbrev pub proc_number : ℕ → ℕ → ℕ
proc_number row column = 4 * row + column

-- a step in this direction that leads to the processor comes from another chip
abbrev pub is_entry : Dir → ℕ → Bool
is_entry North p = row p == 3
is_entry South p = row p == 0
is_entry West p = column p == 3
is_entry East p = column p == 0

-- where a step in this direction that leads to the processor comes from, on the same chip
abbrev pub one_back : Dir → ℕ → ℕ
one_back North p = proc_number (row p + 1) (column p)
one_back South p = proc_number (row p - 1) (column p)
one_back West p = proc_number (row p) (column p + 1)
one_back East p = proc_number (row p) (column p - 1)

-- the processor of the same chip from which a step in this direction leads here: none where it comes from another chip
abbrev pub sender_on_chip : Dir → ℕ → Option ℕ
sender_on_chip dir p = if is_entry dir p then None else Some (one_back dir p)

-- the processor from which bit i of the edge in this direction is: the edge goes from west to east,
-- or from north to south
abbrev pub at_edge : Dir → ℕ → ℕ
at_edge North i = proc_number 0 i
at_edge South i = proc_number 3 i
at_edge West i = proc_number i 0
at_edge East i = proc_number i 3

-- which bit of that edge comes in at the processor, from the next chip
abbrev pub bit_along_edge : Dir → ℕ → ℕ
bit_along_edge North p = column p
bit_along_edge South p = column p
bit_along_edge West p = row p
bit_along_edge East p = row p

-- a corner of the chip at which steps in this direction come in
abbrev pub corner : Dir → ℕ
corner North = 15
corner South = 0
corner West = 15
corner East = 0

-- the bit of a place, of a plane for each chip
abbrev pub bit_of_place : List ℕ → Place → Bool
bit_of_place planes place = bit (slice_index planes place.chip) place.proc
