-- Laws of pokes, each the contract of a function of its name. Ours.
use Rattle.std.specs.Prelude.{◌≡◌, ◌≢◌, ℕ, ◌^◌, ◌<◌, Bool}
use Rattle.cm_model.specs.Processor.{ZERO}
use Rattle.cm_model.specs.Machine.{Machine}
use Rattle.cm_model.specs.Account.{account}
use Rattle.cm_model.specs.Keeping.{IsMachine}
use Rattle.cm_array.specs.Pokes.{machine_with_memory_bit, machine_with_flag}

-- a machine still, with the same account: no message was made, lost or altered
pub record IsPoked (n cap : ℕ) (before after : Machine) : Type 0 where
  pub machine : IsMachine n cap after
  pub account : account n after ≡ account n before

-- so it is with another bit in memory
abbrev pub PokesKeepMachines : Type 0
PokesKeepMachines = (n cap : ℕ) (machine : Machine) (c p address : ℕ) (b : Bool) → c < 2 ^ n → IsMachine n cap machine
    → IsPoked n cap machine (machine_with_memory_bit machine c p address b)

-- and with another bit in a flag, but not in flag 8
abbrev pub FlagPokesKeepMachines : Type 0
FlagPokesKeepMachines = (n cap : ℕ) (machine : Machine) (c p number : ℕ) (b : Bool) → c < 2 ^ n → number ≢ ZERO
    → IsMachine n cap machine → IsPoked n cap machine (machine_with_flag machine c p number b)
