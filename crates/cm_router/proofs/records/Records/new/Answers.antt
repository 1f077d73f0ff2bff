use Rattle.cm_router.specs.Records.{AreRecords}
use Rattle.cm_router.proofs.records.Records.new.Goals as goal

pub returns : goal.returns
unfolding AreRecords
returns c = record { value = λ run. tt }
