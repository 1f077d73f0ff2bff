use Rattle.std.proofs.Common.{arith}
use Rattle.cm_router.specs.Records.{AreRecords}
use Rattle.cm_router.proofs.records.Records.look.Goals as goal

pub returns-then-are_busy : goal.returns-then-are_busy
unfolding AreRecords
returns-then-are_busy c = record {
  records = λ j k few within small p below. c.write_field_planes.ensures.value j k few (omega arith) p below;
}
