-- Worked values of the definitions, which the checker computes: tables, the grid, the chain, instructions, the wire.
use Rattle.std.proofs.Common.{◌≡◌, ℕ, ◌==◌, Bool, true, false, Some, None, [], ◌∷◌, replicate, set, refl}
use Rattle.cm_bits.specs.declared.plane.Dir.TheVariants.{North, East, West, South}
use Rattle.cm_model.specs.declared.act.Nano.{Nano}
use Rattle.cm_model.specs.Each.{tabulate}
use Rattle.cm_model.specs.Place.{neighbour, source, predecessor, rows, columns}
use Rattle.cm_model.specs.Processor.{Processor, entry, value, flag}
use Rattle.cm_model.specs.Instruction.{processor_after}
use Rattle.cm_model.specs.Chip.{each_processor, chip_after, processor_at, plane_number}
use Rattle.cm_model.specs.Array.{Chips, chip_at, incoming, after_nano, wire}

-- ---- tables: the sum and the carry of 1, 0 and 1; the borrow of 0 - 1 - 0; B where F is 1

sum_of_two_ones : entry 0x96 true false true ≡ false
sum_of_two_ones = refl

carry_of_two_ones : entry 0xE8 true false true ≡ true
carry_of_two_ones = refl

borrow : entry 0x8E false true false ≡ true
borrow = refl

choice_by_f : entry 0xD8 false true true ≡ true
choice_by_f = refl

-- ---- memory fields: bit 0 is the lowest

field_of_three : value (false ∷ true ∷ true ∷ []) ≡ 6
field_of_three = refl

-- ---- the torus of one chip, over each edge

north_edge : neighbour 0 North (record { chip = 0; proc = 2 }) ≡ record { chip = 0; proc = 14 }
unfolding neighbour
north_edge = refl

south_edge : neighbour 0 South (record { chip = 0; proc = 15 }) ≡ record { chip = 0; proc = 3 }
unfolding neighbour
south_edge = refl

west_edge : neighbour 0 West (record { chip = 0; proc = 4 }) ≡ record { chip = 0; proc = 7 }
unfolding neighbour
west_edge = refl

east_edge : neighbour 0 East (record { chip = 0; proc = 11 }) ≡ record { chip = 0; proc = 8 }
unfolding neighbour
east_edge = refl

-- ---- eight chips, two in a row: sixteen rows, eight columns

rows_of_three : rows 3 ≡ 16
rows_of_three = refl

columns_of_three : columns 3 ≡ 8
columns_of_three = refl

north_of_the_second_chip : neighbour 3 North (record { chip = 1; proc = 3 }) ≡ record { chip = 7; proc = 15 }
unfolding neighbour
north_of_the_second_chip = refl

-- a row wraps to the first chip
east_of_the_second_chip : neighbour 3 East (record { chip = 1; proc = 3 }) ≡ record { chip = 0; proc = 0 }
unfolding neighbour
east_of_the_second_chip = refl

south_from_the_last_row : neighbour 12 South (record { chip = 4095; proc = 15 }) ≡ record { chip = 63; proc = 3 }
unfolding neighbour
south_from_the_last_row = refl

-- what arrives going north came from the south
north_comes_from_the_south : source 0 North (record { chip = 0; proc = 12 }) ≡ record { chip = 0; proc = 0 }
unfolding neighbour
north_comes_from_the_south = refl

-- ---- the chain

the_first_has_no_predecessor : predecessor 0 ≡ None
the_first_has_no_predecessor = refl

predecessor_of_five : predecessor 5 ≡ Some 4
predecessor_of_five = refl

-- ---- instructions, on processors of two memory bits

-- 'memory bit 0 := 1, flag WRITE := flag 0' where flag 1 is 0
instruction : ℕ → Nano
instruction write = record {
  a = 0;
  b = 1;
  read = 0;
  write = write;
  cond = 1;
  sense = false;
  mem_table =
      0xFF;
  flag_table = 0xAA;
  dir = South;
}

-- memory bits 0 and 0, and these flags 0 and 1
processor : Bool → Bool → Processor
processor f g = record { memory = replicate 2 false; flags = f ∷ g ∷ replicate 14 false }

-- a condition that fails stores nothing
failing_condition : processor_after (instruction 2) true (processor true true) ≡ processor true true
unfolding processor_after instruction processor
failing_condition = refl

-- one that holds stores both outputs
holding_condition : processor_after (instruction 2) false (processor true false)
    ≡ record { memory = true ∷ false ∷ []; flags = true ∷ false ∷ true ∷ replicate 13 false }
unfolding processor_after instruction processor
holding_condition = refl

-- a store into flag ZERO is dropped, but memory is stored
dropped_store : processor_after (instruction 8) true (processor true false) ≡ record {
  memory =
      true ∷ false ∷ [];
  flags = true ∷ replicate 15 false;
}
unfolding processor_after instruction processor
dropped_store = refl

-- one chip, whose processor 12 alone has flag 0, and a condition that fails
one_sender : Chips
one_sender = each_processor (λ p. processor (p == 12) (p == 12)) ∷ []

-- its bit arrives over NEWS all the same, southward round the torus at processor 0, where the condition holds
news_of_a_failing_sender : flag (processor_at (chip_at (after_nano 0 (instruction 10) one_sender) 0) 0) 10 ≡ true
unfolding after_nano tabulate chip_after incoming processor_after neighbour instruction processor one_sender
news_of_a_failing_sender = refl

-- and the sender keeps what it had
sender_keeps : processor_at (chip_at (after_nano 0 (instruction 10) one_sender) 0) 12 ≡ processor true true
unfolding after_nano tabulate chip_after incoming processor_after neighbour instruction processor one_sender
sender_keeps = refl

-- ---- the wire

one_drives_the_wire : wire
    ((processor false false ∷ []) ∷ (record { memory = []; flags = set (replicate 16 false) 9 true } ∷ []) ∷ []) ≡ true
unfolding wire processor
one_drives_the_wire = refl

nobody_drives_it : wire ((processor true true ∷ []) ∷ []) ≡ false
unfolding wire processor
nobody_drives_it = refl

-- ---- planes

plane_of_two : plane_number (λ p. p == 0) ≡ 1
unfolding plane_number tabulate
plane_of_two = refl
