-- Runners with workers: which there are, and how they share out a machine. Ours.
use Rattle.std.specs.Prelude.{ℕ, ◌-◌, ◌/◌, ◌^◌, min, ◌==◌, ◌||◌, ltb}
use Rattle.std.specs.Prelude.{Option, Some, None, if◌then◌else◌}
use Rattle.cm_gates.specs.declared.forks.ForkFault.{ForkFault}
use Rattle.cm_gates.specs.declared.forks.ForkFault.TheVariants.{Split, Workers}
use Rattle.cm_gates.specs.declared.out_of.OutOf.{OutOf}
use Rattle.cm_gates.specs.declared.out_of.OutOf.TheVariants as want
use Rattle.cm_array.specs.declared.runner.RunFault.{RunFault}
use Rattle.cm_array.specs.declared.runner.RunFault.TheVariants as fault

-- the first fault: a machine of n dimensions cannot be cut into 2 ^ k blocks; there are no workers, or more than blocks
abbrev pub fork_fault : ℕ → ℕ → ℕ → Option ForkFault
fork_fault n k workers =
    if ltb (n - n / 2) k then Some Split else if workers == 0 || ltb (2 ^ k) workers then Some Workers else None

-- how many blocks there are, as a power of two: 2 ^ k are asked for, and n dimensions allow 2 ^ (n - n / 2) at most
abbrev pub most_blocks : ℕ → ℕ → ℕ
most_blocks n k = min k (n - n / 2)

-- how many workers there are, where so many are asked for: no more than blocks
abbrev pub most_workers : ℕ → ℕ → ℕ → ℕ
most_workers n k workers = min workers (2 ^ most_blocks n k)

-- a want as a runner's fault
abbrev pub of_want : OutOf → RunFault
of_want (want.Memory refused) = fault.Memory
of_want (want.Thread refused) = fault.NoThread
