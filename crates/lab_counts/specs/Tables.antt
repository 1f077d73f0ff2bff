-- Lines of tables that tell what is counted: numbers in columns, with a comma between them. Ours.
use Rattle.std.specs.Prelude.{ℕ, ◌+◌, ◌/◌, ◌%◌, List, [], ◌∷◌, ◌++◌, codes, decimal}
use Rattle.std.specs.List.{flat_map}
use Rattle.cm_bits.specs.Text.{number_cell, last_number_cell}
use Rattle.lab_counts.specs.declared.chips.ChipCrossings.{ChipCrossings}
use Rattle.lab_counts.specs.declared.crossings.Crossings.{Crossings}

-- ---- numbers

-- the last digits of a number
abbrev pub last_digit : ℕ → List ℕ
last_digit x = decimal (x % 10)

-- its last two
abbrev pub last_two : ℕ → List ℕ
last_two x = last_digit (x / 10) ++ last_digit x

-- so many hundredths: whole ones, a point, two digits, and the comma behind them
abbrev pub hundredths_text : ℕ → List ℕ
hundredths_text x = decimal (x / 100) ++ 46 ∷ [] ++ last_two x ++ 44 ∷ []

-- ---- crossings

-- the line of the dimension or of the chip with this number, under a load of this rate
unfoldable pub counted_line : ℕ → ℕ → Crossings → List ℕ
counted_line rate k crossings =
    hundredths_text rate ++ number_cell k ++ number_cell crossings.crossed ++ number_cell crossings.referred
    ++ last_number_cell crossings.refused

-- those of these, numbered from k on
abbrev pub counted_lines : ℕ → ℕ → List Crossings → List ℕ
counted_lines rate k [] = []
counted_lines rate k (crossings ∷ more) = counted_line rate k crossings ++ counted_lines rate (k + 1) more

-- ---- the table by chip

-- the names of its columns
abbrev pub chip_header : List ℕ
chip_header = codes "rate,chip,crossed,referred,refused\n"

-- the lines of a load, one for each chip
abbrev pub chip_lines : ChipCrossings → List ℕ
chip_lines load = counted_lines load.rate 0 load.chips.items

-- the table: a line of names, and the lines of each load
unfoldable pub chip_table_of : List ChipCrossings → List ℕ
chip_table_of loads = chip_header ++ flat_map chip_lines loads
