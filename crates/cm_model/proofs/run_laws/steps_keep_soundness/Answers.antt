use Rattle.cm_model.proofs.Keeping.{sound-step}
use Rattle.cm_model.proofs.run_laws.steps_keep_soundness.Goals as goal

pub returns : goal.returns
returns c = sound-step
