use Rattle.std.proofs.Common.{◌++◌, ◌∷◌, [], List, take, set, length, sym, ap, ◌∙◌, arith, length-set}
use Rattle.std.proofs.lemmas.List.{take_more}
use Rattle.cm_model.specs.Letters.{chip_after_delivery}
use Rattle.cm_model.specs.Array.{Chips, chip_at}
use Rattle.cm_router.specs.declared.delivery.Delivery.{Delivery}
use Rattle.cm_router.specs.Deliveries.{run_after}
use Rattle.cm_router.proofs.Delivering.{run_after-append}
use Rattle.cm_router.proofs.delivery.put_all_down.Goals as goal

pub loop-delivery-preserved : goal.loop-delivery-preserved
loop-delivery-preserved c =
    let ds : List Delivery = c.args.deliveries.now in
    let i = c.loop-delivery.delivery-index in
    let d : Delivery = c.delivery-item.result in
    let more = take_more ds i d (omega arith) ∙ ap (λ (x : Delivery). take i ds ++ x ∷ []) (sym c.delivery-item.is) in
    record {
      run = c.put_one_down.ensures.value
          ∙ ap (λ (r : Chips). set r d.place (chip_after_delivery (d.message ∷ []) (chip_at r d.place)))
          c.loop-delivery.invariant.run
          ∙ sym (run_after-append (take i ds) d c.args.run.now)
          ∙ ap (λ (xs : List Delivery). run_after xs c.args.run.now) (sym more);
      chips = ap length c.put_one_down.ensures.value
          ∙ length-set c.loop-delivery.run d.place _
          ∙ c.loop-delivery.invariant.chips;
    }
