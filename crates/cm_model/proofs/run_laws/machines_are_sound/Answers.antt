use Rattle.cm_model.proofs.Keeping.{sound-machine}
use Rattle.cm_model.proofs.run_laws.machines_are_sound.Goals as goal

pub returns : goal.returns
returns c = sound-machine
