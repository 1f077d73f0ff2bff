-- All chips of a cube: the instruction step of every place at once, and the global wire. Hillis 1985.
use Rattle.std.specs.Prelude.{ℕ, ◌^◌, ◌==◌, Bool, false, List, [], Option, Some, None, slice_index_or, if◌then◌else◌}
use Rattle.std.specs.List.{list_any}
use Rattle.cm_bits.specs.declared.place.Place.{Place}
use Rattle.cm_model.specs.declared.act.Nano.{Nano}
use Rattle.cm_model.specs.Each.{tabulate}
use Rattle.cm_model.specs.Place.{source, predecessor}
use Rattle.cm_model.specs.Processor.{Processor, GLOBAL, NEWS, flag}
use Rattle.cm_model.specs.Instruction.{flag_output}
use Rattle.cm_model.specs.Chip.{processor_at, chip_after}

-- the chips of a machine by number
abbrev pub Chips : Type 0
Chips = List (List Processor)

-- what a function of the chip's number gives for each chip of a cube of n dimensions
abbrev pub each_chip : {X : Type 0} → ℕ → (ℕ → X) → List X
each_chip n f = tabulate 0 (2 ^ n) f

-- of lists, one for each chip by number, that of a chip: its buffer, its log
abbrev pub nth_or_nil : {X : Type 0} → List (List X) → ℕ → List X
nth_or_nil lists c = slice_index_or lists c []

-- the chip of a number
abbrev pub chip_at : Chips → ℕ → List Processor
chip_at chips c = slice_index_or chips c []

-- the processor at a place
abbrev pub processor_of : Chips → Place → Processor
processor_of chips place = processor_at (chip_at chips place.chip) place.proc

-- the flag output at a place, where a function reads the chips by number
abbrev pub output : Nano → (ℕ → List Processor) → Place → Bool
output nano read place = flag_output nano (processor_at (read place.chip) place.proc)

-- the flag output along a chip's chain: that of the predecessor, or 0 where there is none
abbrev pub chain_output : Nano → List Processor → Option ℕ → Bool
chain_output nano chip None = false
chain_output nano chip (Some p) = flag_output nano (processor_at chip p)

-- the bit that comes in at a place: over NEWS the flag output of the place whose neighbour this is,
-- over DAISY that of the predecessor
unfoldable pub incoming : ℕ → Nano → Chips → ℕ → ℕ → Bool
incoming n nano chips c p =
    if nano.write == NEWS
    then output nano (chip_at chips) (source n nano.dir (record { chip = c; proc = p }))
    else chain_output nano (chip_at chips c) (predecessor p)

-- all chips after the instruction: every place at once, from the old state
unfoldable pub after_nano : ℕ → Nano → Chips → Chips
after_nano n nano chips = each_chip n (λ c. chip_after nano (incoming n nano chips c) (chip_at chips c))

-- the global wire: some processor has flag GLOBAL
unfoldable pub wire : Chips → Bool
wire chips = list_any (λ chip. list_any (λ processor. flag processor GLOBAL) chip) chips
