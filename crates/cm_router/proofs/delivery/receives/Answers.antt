use Rattle.std.proofs.Common.{false, arith}
use Rattle.std.proofs.lemmas.Bool.Decides.{nat_tests}
use Rattle.cm_router.proofs.Delivering.{handed_over, gone_is_whole}
use Rattle.cm_router.proofs.delivery.receives.Goals as goal

pub returns : goal.returns
returns c = record {
  kept = λ no before chip seen m is able gone.
      let here = able m.proc (omega (arith, is, c.is_one.ensures.in_range)) in
      handed_over false before seen m chip gone (grind (arith, nat_tests, here, is, c.is_one.ensures.value))
      (λ _. (gone_is_whole gone, omega (arith, is, c.is_one.ensures.in_range)));
}
