-- A machine of which a bit was poked is a machine, with the same account.
use Rattle.std.proofs.Common.{◌≢◌, ℕ, ◌<◌, ◌^◌, Bool, List, [], set, refl, ◌∙◌}
use Rattle.std.proofs.lemmas.List.{length-set}
use Rattle.cm_model.specs.Processor.{Processor, ZERO}
use Rattle.cm_model.specs.Chip.{with_memory_bit, with_flag}
use Rattle.cm_model.specs.Whole.{IsChip}
use Rattle.cm_model.specs.Array.{chip_at}
use Rattle.cm_model.specs.Machine.{Machine}
use Rattle.cm_model.specs.Account.{account}
use Rattle.cm_model.specs.Keeping.{IsMachine}
use Rattle.cm_array.specs.Pokes.{machine_with_memory_bit, machine_with_flag}
use Rattle.cm_array.specs.PokeLaws.{IsPoked}
use Rattle.cm_array.proofs.Lists.{each_after_set}
use Rattle.cm_array.proofs.Machines.{IsMachine-with_chips}
use Rattle.cm_array.proofs.Wholes.{IsChip-with_memory_bit, IsChip-with_flag}

-- one chip is another whole one
with_chip : (n cap : ℕ) (machine : Machine) (c : ℕ) (chip : List Processor) → IsChip chip → IsMachine n cap machine
    → IsPoked n cap machine (record machine { chips = set machine.chips c chip })
unfolding account
with_chip n cap machine c chip whole h = record {
  machine = IsMachine-with_chips n cap machine (set machine.chips c chip)
      (length-set machine.chips c chip ∙ h.chip_count)
      (each_after_set (λ (z : List Processor). IsChip z) machine.chips [] c chip (2 ^ n) h.chip_count h.whole whole) h;
  account = refl;
}

pub pokes_keep_machines : (n cap : ℕ) (machine : Machine) (c p address : ℕ) (b : Bool) → c < 2 ^ n
    → IsMachine n cap machine → IsPoked n cap machine (machine_with_memory_bit machine c p address b)
pokes_keep_machines n cap machine c p address b l h =
    with_chip n cap machine c (with_memory_bit (chip_at machine.chips c) p address b)
    (IsChip-with_memory_bit (chip_at machine.chips c) p address b (h.whole c l)) h

pub flag_pokes_keep_machines : (n cap : ℕ) (machine : Machine) (c p number : ℕ) (b : Bool) → c < 2 ^ n
    → number ≢ ZERO → IsMachine n cap machine → IsPoked n cap machine (machine_with_flag machine c p number b)
flag_pokes_keep_machines n cap machine c p number b l other h =
    with_chip n cap machine c (with_flag (chip_at machine.chips c) p number b)
    (IsChip-with_flag (chip_at machine.chips c) p number b other (h.whole c l)) h
