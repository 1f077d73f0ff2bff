use Rattle.std.proofs.Common.{◌≡◌, true, false, arith}
use Rattle.std.proofs.lemmas.Bool.Decides.{nat_tests}
use Rattle.cm_router.proofs.Delivering.{handed_over, still_open, run_after-append, bit-without_one, gone_is_whole}
use Rattle.cm_router.proofs.delivery.Deliveries.hand_over.Goals.{else-message-eq0-via-then-message-eq0+else-is_one}
use Rattle.cm_router.proofs.delivery.Deliveries.hand_over.Goals.{else-message-eq0-via-else-message-eq0}
use Rattle.cm_router.proofs.delivery.Deliveries.hand_over.Goals as goal

pub returns-then-is_one-clause-step : goal.returns-then-is_one-clause-step
returns-then-is_one-clause-step c = λ before chip seen gone able.
    let here = able c.args.message.now.proc c.is_one.ensures.in_range in
    handed_over true before seen c.args.message.now chip gone (grind (arith, nat_tests, here))
    (λ _. (gone_is_whole gone, c.is_one.ensures.in_range))

pub returns-then-is_one-clause-receivers : goal.returns-then-is_one-clause-receivers
returns-then-is_one-clause-receivers c = λ before chip seen gone able p h.
    let m = c.args.message.now in
    let here = able m.proc c.is_one.ensures.in_range in
    let number : c.get.result ≡ m.proc = c.get.ensures.value in
    let left = still_open true m chip p h (grind (arith, nat_tests, here))
    (λ _. (gone_is_whole gone, c.is_one.ensures.in_range)) in
    grind (arith, nat_tests, left, able p h, bit-without_one c.args.receivers.now c.get.result p c.get.ensures.in_range h)

pub returns-then-is_one-clause-later : goal.returns-then-is_one-clause-later
returns-then-is_one-clause-later c = λ run.
    rw (c.push.ensures.items, c.self.view_is) (run_after-append c.args.self.now _ run)

pub returns-clause-step : goal.returns-clause-step
returns-clause-step c = λ before chip seen gone able.
    elim c.else-message-eq0.branch [
      | else-message-eq0-via-then-message-eq0+else-is_one w ↦
          (let here = able c.args.message.now.proc w.is_one.ensures.in_range in
          handed_over false before seen c.args.message.now chip gone (grind (arith, nat_tests, here))
          (λ _. (gone_is_whole gone, w.is_one.ensures.in_range)))
      | else-message-eq0-via-else-message-eq0 w ↦
          handed_over false before seen c.args.message.now chip gone (grind (arith, nat_tests)) (grind (arith, nat_tests))
    ]
