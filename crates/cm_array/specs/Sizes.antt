-- A machine of any sizes, beside them. Ours.
use Rattle.std.specs.Prelude.{ℕ}
use Rattle.cm_model.specs.Machine.{Machine}
use Rattle.cm_array.specs.declared.chip_state.ChipState.{ChipState}
use Rattle.cm_array.specs.Parts.{machine_of}

-- a machine and its sizes: its dimension, and the room of its routers
pub record SizedMachine : Type 0 where
  pub n : ℕ
  pub cap : ℕ
  pub machine : Machine

-- what contracts see of chips that keep their sizes
abbrev pub sized_of : ChipState → SizedMachine
sized_of state = record { n = state.shape.dims; cap = state.shape.room; machine = machine_of state }
