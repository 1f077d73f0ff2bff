use Rattle.cm_array.proofs.Poking.{flag_pokes_keep_machines}
use Rattle.cm_array.proofs.poke_laws.flag_pokes_keep_machines.Goals as goal

pub returns : goal.returns
returns c = flag_pokes_keep_machines
