use Rattle.std.proofs.Common.{◌<◌, ◌∙◌, [], length, ap, sym, arith, ext_get_or}
use Rattle.std.proofs.lemmas.List.{length-set, length-map, get_or-map}
use Rattle.cm_router.specs.Logs.{Log}
use Rattle.cm_petit.specs.Routers.{events_of}
use Rattle.cm_array.proofs.Laying.{one_log_laid}
use Rattle.cm_array.proofs.chip_state.lay_logs.Goals as goal

pub loop-c-preserved : goal.loop-c-preserved
loop-c-preserved c =
    let i = c.loop-c.c in
    let here : i < length c.loop-c.logs = omega (arith, c.loop-c-test.true, c.loop-c.auto.logs, c.loop-c.invariant.count) in
    let there : i < length c.args.others.now = omega (arith, here, c.loop-c.invariant.count, c.requires.count) in
    let other = c.index-others-c.result in
    let one = c.deref.ensures.value ∙ ap (λ (log : Log). log.items) c.index-others-c.is in
    record {
      count = length-set c.loop-c.logs i c.lay_log.new.log ∙ c.loop-c.invariant.count;
      laid = one_log_laid c.loop-c.logs (events_of c.args.others.now) i c.lay_log.new.log here
          (c.in_ok-lay_log.ensures.value ∙ one
          ∙ sym (get_or-map (λ (x : Log). x.items) c.args.others.now i other [] there))
          c.loop-c.invariant.laid;
    }

pub returns : goal.returns
returns c =
    let long = length-map c.loop-c.logs (λ (x : Log). x.items) in
    record {
      value = ext_get_or [] (events_of c.loop-c.logs) (events_of c.args.others.now)
          (long ∙ c.loop-c.invariant.count ∙ sym c.requires.count
          ∙ sym (length-map c.args.others.now (λ (x : Log). x.items)))
          (λ k l. c.loop-c.invariant.laid k (omega (
            arith,
            l,
            long,
            c.loop-c.invariant.count,
            c.loop-c-test.false,
            c.loop-c.auto.c-end,
          )));
    }
