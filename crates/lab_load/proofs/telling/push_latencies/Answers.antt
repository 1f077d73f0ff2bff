use Rattle.std.proofs.Common.{ℕ, ◌++◌, List, take, sym, ap, ◌∙◌, append_assoc}
use Rattle.std.specs.List.{flat_map}
use Rattle.cm_router.specs.Logs.{Log}
use Rattle.lab_load.specs.Telling.{latency_logged}
use Rattle.lab_load.proofs.Adding.{made_more}
use Rattle.lab_load.proofs.telling.push_latencies.Goals as goal

pub loop-log-preserved : goal.loop-log-preserved
loop-log-preserved c =
    let f : Log → List ℕ = λ log. flat_map (latency_logged c.args.t) log.items in
    let before : List ℕ = c.args.latencies.now.items in
    let so_far : List ℕ = flat_map f (take c.loop-log.log-index c.args.logs.now) in
    c.in_ok-push_told.ensures.ok
    ∙ ((λ i. c.loop-log.invariant i ++ flat_map (latency_logged c.args.t) (c.deref.ensures.value i))
    ∙ (append_assoc before so_far (f c.log-item.result)
    ∙ ap (λ (xs : List ℕ). before ++ xs)
    (sym (made_more f c.args.logs.now c.loop-log.log-index c.log-item.result c.loop-log-test.true c.log-item.is))))
