-- A machine that is being built: it has no log yet, and a tag may stand twice in it. Ours.
use Rattle.std.specs.Prelude.{◌≡◌, ℕ, ◌<◌, ◌^◌, length}
use Rattle.std.specs.List.{All}
use Rattle.cm_model.specs.Whole.{IsChip}
use Rattle.cm_model.specs.Wiring.{IsRouting}
use Rattle.cm_model.specs.Array.{Chips, chip_at, nth_or_nil}
use Rattle.cm_model.specs.Machine.{Machine}
use Rattle.cm_model.specs.Keeping.{HasRoom, HasMessages}
use Rattle.cm_model.specs.Unlogged.{IsUnlogged}
use Rattle.cm_array.specs.declared.chip_state.ChipState.{ChipState}
use Rattle.cm_array.specs.Parts.{machine_of, AreSized}

-- all that every machine keeps but that a tag stands once, and no event
pub record IsUnfinished (n cap : ℕ) (machine : Machine) : Type 0 where
  pub chip_count : length machine.chips ≡ 2 ^ n
  pub buffer_count : length machine.buffers ≡ 2 ^ n
  pub whole : (c : ℕ) → c < 2 ^ n → IsChip (chip_at machine.chips c)
  pub room : HasRoom n cap machine
  pub messages : HasMessages n machine
  pub born : (c : ℕ) → c < 2 ^ n → All (λ m. m.tag.birth < machine.clock) (nth_or_nil machine.buffers c)
  pub unlogged : IsUnlogged n machine
  pub routing : IsRouting n machine.routing

-- the state of the chips that a builder has, which are filled near
abbrev pub state_built : Chips → ChipState → ChipState
state_built run state = record state { run = run }

-- the chips of such a machine, with sizes and working room as every machine has them
pub record AreUnfinished (n cap : ℕ) (state : ChipState) : Type 0 where
  pub sized : AreSized n cap (2 ^ n) state
  pub machine : IsUnfinished n cap (machine_of state)
