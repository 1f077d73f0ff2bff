use Rattle.cm_array.proofs.Behind.{few_events_are_told}
use Rattle.cm_array.proofs.log_laws.few_events_are_told.Goals as goal

pub returns : goal.returns
returns c = few_events_are_told
