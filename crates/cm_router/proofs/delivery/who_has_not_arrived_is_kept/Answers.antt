use Rattle.std.proofs.Common.{false, arith}
use Rattle.cm_router.proofs.Delivering.{handed_over}
use Rattle.cm_router.proofs.delivery.who_has_not_arrived_is_kept.Goals as goal

pub returns : goal.returns
returns c = record {
  law = λ before seen m chip still gone. handed_over false before seen m chip gone (grind arith) (grind arith);
}
