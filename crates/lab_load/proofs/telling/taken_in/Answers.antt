use Rattle.std.proofs.Common.{◌≡◌, ap, ◌∙◌, arith}
use Rattle.std.specs.List.{count_by}
use Rattle.cm_router.specs.Logs.{Log}
use Rattle.lab_load.specs.Telling.{is_injection_event}
use Rattle.lab_load.proofs.Adding.{sum_more}
use Rattle.lab_load.proofs.telling.taken_in.Goals as goal

pub loop-log-preserved : goal.loop-log-preserved
loop-log-preserved c =
    let more : c.injections.result ≡ count_by is_injection_event c.log-item.result.items =
    c.injections.ensures.value ∙ ap (count_by is_injection_event) c.deref.ensures.value in
    record {
      so_far = omega (
        arith,
        c.loop-log.invariant.so_far,
        more,
        sum_more (λ (log : Log). count_by is_injection_event log.items) c.args.logs.now c.loop-log.log-index c.log-item.result
            c.loop-log-test.true c.log-item.is,
      );
      within = omega arith;
    }
