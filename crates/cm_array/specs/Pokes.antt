-- A machine with one bit or one plane changed, with one message more, or that routes otherwise: ours.
use Rattle.std.specs.Prelude.{ℕ, Bool, [], ◌∷◌, ◌++◌, slice_set}
use Rattle.cm_bits.specs.Bit.{bit}
use Rattle.cm_model.specs.declared.message.Message.{Message}
use Rattle.cm_model.specs.Chip.{with_memory_bit, with_flag}
use Rattle.cm_model.specs.Array.{Chips, chip_at, nth_or_nil}
use Rattle.cm_model.specs.Machine.{Machine}
use Rattle.cm_bits.specs.Wire.{Wire}
use Rattle.cm_model.specs.declared.rule.Rule.{Rule}
use Rattle.cm_element.specs.Near.{with_near}
use Rattle.cm_element.specs.Wide.{with_memory_plane, with_flag_plane}
use Rattle.cm_router.specs.Cuts.{with_wire}

-- the machine with another bit at an address of a processor of a chip
abbrev pub machine_with_memory_bit : Machine → ℕ → ℕ → ℕ → Bool → Machine
machine_with_memory_bit machine c p address b =
    record machine { chips = slice_set machine.chips c (with_memory_bit (chip_at machine.chips c) p address b) }

-- the machine with another bit in a flag of a processor of a chip
abbrev pub machine_with_flag : Machine → ℕ → ℕ → ℕ → Bool → Machine
machine_with_flag machine c p number b =
    record machine { chips = slice_set machine.chips c (with_flag (chip_at machine.chips c) p number b) }

-- the machine with another plane at an address of a chip: bit p goes to processor p
abbrev pub machine_with_plane : Machine → ℕ → ℕ → ℕ → Machine
machine_with_plane machine c address plane =
    record machine {
      chips = slice_set machine.chips c (with_memory_plane (chip_at machine.chips c) address (bit plane));
    }

-- the machine with another plane in a flag of a chip
abbrev pub machine_with_flag_plane : Machine → ℕ → ℕ → ℕ → Machine
machine_with_flag_plane machine c number plane =
    record machine { chips = slice_set machine.chips c (with_flag_plane (chip_at machine.chips c) number (bit plane)) }

-- the machine with these chips in their places from the first on
abbrev pub machine_with_chips : Machine → ℕ → Chips → Machine
machine_with_chips machine first chips = record machine { chips = with_near machine.chips chips first }

-- the machine with a message more, behind those that stand at a chip
abbrev pub machine_with_message : Machine → ℕ → Message → Machine
machine_with_message machine c m =
    record machine { buffers = slice_set machine.buffers c (nth_or_nil machine.buffers c ++ m ∷ []) }

-- the machine with this wire cut too
abbrev pub machine_with_cut : Machine → Wire → Machine
machine_with_cut machine w =
    record machine { routing = record machine.routing { cuts = with_wire w machine.routing.cuts } }

-- the machine whose routers choose by this rule
abbrev pub machine_with_rule : Machine → Rule → Machine
machine_with_rule machine rule = record machine { routing = record machine.routing { rule = rule } }
