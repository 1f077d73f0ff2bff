use Rattle.cm_array.proofs.Poking.{pokes_keep_machines}
use Rattle.cm_array.proofs.poke_laws.pokes_keep_machines.Goals as goal

pub returns : goal.returns
returns c = pokes_keep_machines
