-- Data: one number for each processor, chip by chip or row by row of the NEWS grid. Ours.
use Rattle.std.specs.Prelude.{ℕ, ◌+◌, ◌*◌, ◌/◌, ◌%◌, ◌^◌, List, slice_index_or}
use Rattle.cm_bits.specs.Bit.{bit_number}
use Rattle.cm_bits.specs.declared.place.Place.{Place}
use Rattle.cm_model.specs.Place.{columns, row_of, column_of, place_at}
use Rattle.cm_model.specs.Processor.{Processor, flag, field_value}
use Rattle.cm_model.specs.Each.{tabulate}
use Rattle.cm_model.specs.Chip.{each_processor, processor_at}
use Rattle.cm_model.specs.Letters.{with_field}
use Rattle.cm_model.specs.Array.{Chips, each_chip, chip_at, processor_of}
use Rattle.cm_model.specs.Machine.{Machine}
use Rattle.lab_data.specs.declared.order.Order.{Order}
use Rattle.lab_data.specs.declared.order.Order.TheVariants.{Chips as by_chips, Rows as by_rows}

-- how many processors a cube of n dimensions has
abbrev pub processors : ℕ → ℕ
processors n = 16 * 2 ^ n

-- the place of the processor that stands at an index
abbrev pub place_in : ℕ → Order → ℕ → Place
place_in n by_chips i = record { chip = i / 16; proc = i % 16 }
place_in n by_rows i = place_at n (i / columns n) (i % columns n)

-- the index at which the processor of a place stands
abbrev pub index_in : ℕ → Order → Place → ℕ
index_in n by_chips place = place.chip * 16 + place.proc
index_in n by_rows place = row_of n place * columns n + column_of n place

-- how many numbers stand in a line: those of a chip, or of a row of the grid
abbrev pub width_in : ℕ → Order → ℕ
width_in n by_chips = 16
width_in n by_rows = columns n

-- the number that each processor has in the memory field of this length at this address
unfoldable pub numbers_of : ℕ → Order → ℕ → ℕ → Chips → List ℕ
numbers_of n order at len chips =
    tabulate 0 (processors n) (λ i. field_value (processor_of chips (place_in n order i)) at len)

-- the flag of this number that each processor has, as 0 or 1
unfoldable pub flags_of : ℕ → Order → ℕ → Chips → List ℕ
flags_of n order number chips =
    tabulate 0 (processors n) (λ i. bit_number (flag (processor_of chips (place_in n order i)) number))

-- a processor with a number in the field
abbrev pub processor_with : ℕ → ℕ → ℕ → Processor → Processor
processor_with at len number processor = record processor { memory = with_field processor.memory at len number }

-- of these numbers that of the processor of a place
abbrev pub number_for : ℕ → Order → List ℕ → ℕ → ℕ → ℕ
number_for n order numbers c p = slice_index_or numbers (index_in n order (record { chip = c; proc = p })) 0

-- chip c with its numbers in the field
unfoldable pub chip_with_numbers : ℕ → Order → ℕ → ℕ → List ℕ → ℕ → List Processor → List Processor
chip_with_numbers n order at len numbers c chip =
    each_processor (λ p. processor_with at len (number_for n order numbers c p) (processor_at chip p))

-- all chips with these numbers in the field of each processor
unfoldable pub chips_with_numbers : ℕ → Order → ℕ → ℕ → List ℕ → Chips → Chips
chips_with_numbers n order at len numbers chips =
    each_chip n (λ c. chip_with_numbers n order at len numbers c (chip_at chips c))

-- the machine with them; all else of it is as it was
abbrev pub machine_with_numbers : ℕ → Order → ℕ → ℕ → List ℕ → Machine → Machine
machine_with_numbers n order at len numbers machine =
    record machine { chips = chips_with_numbers n order at len numbers machine.chips }
