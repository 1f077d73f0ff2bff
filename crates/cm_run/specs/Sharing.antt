-- Why a session on a machine cannot be shared out as it is asked for. Ours.
use Rattle.std.specs.Prelude.{ℕ, Option}
use Rattle.std.specs.Option.{option_map}
use Rattle.cm_gates.specs.declared.forks.ForkFault.{ForkFault}
use Rattle.cm_gates.specs.declared.forks.ForkFault.TheVariants as fork
use Rattle.cm_gates.specs.Forks.{fork_fault}
use Rattle.cm_run.specs.declared.sharing.Sharing.{Sharing}
use Rattle.cm_system.specs.declared.program_fault.ProgramFault.{ProgramFault}
use Rattle.cm_system.specs.declared.program_fault.ProgramFault.TheVariants.{Split, Workers}

-- what refuses a runner of many threads, as a fault of the program
abbrev pub of_fork : ForkFault → ProgramFault
of_fork fork.Split = Split
of_fork fork.Workers = Workers

-- a machine of n dimensions is shared out as such a runner does it
abbrev pub sharing_fault : ℕ → Sharing → Option ProgramFault
sharing_fault n sharing = option_map of_fork (fork_fault n sharing.split sharing.workers)
