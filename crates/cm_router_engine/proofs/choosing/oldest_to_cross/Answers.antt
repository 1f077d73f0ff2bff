use Rattle.std.proofs.Common.{◌-◌, ◌<◌, length, sym, ◌∙◌, arith}
use Rattle.std.proofs.lemmas.List.{length-map}
use Rattle.cm_model.specs.Array.{nth_or_nil}
use Rattle.cm_router_engine.specs.Standing.{message_of_ticket, standing}
use Rattle.cm_router_engine.proofs.Places.{older_found, older_behind}
use Rattle.cm_router_engine.proofs.choosing.oldest_to_cross.Goals as goal

pub loop-place-preserved-then-goes_first : goal.loop-place-preserved-then-goes_first
loop-place-preserved-then-goes_first c =
    let ts = nth_or_nil c.args.slots.now c.args.chip in
    let was = c.loop-place.invariant in
    let place = c.loop-place.place in
    let some : 0 < place = omega (arith, c.loop-place-test.true) in
    let inside : place - 1 < length ts = omega (arith, was.most, some) in
    record {
      value = older_found c.args.dim (standing c.args.row.now ts) place c.loop-place.oldest some
          (rw (length-map ts (message_of_ticket c.args.row.now)) inside) was.value
          (sym c.goes_first.ensures.value ∙ c.if-goes_first.true);
      within = inside;
      most = omega (arith, inside);
    }

pub loop-place-preserved : goal.loop-place-preserved
loop-place-preserved c =
    let ts = nth_or_nil c.args.slots.now c.args.chip in
    let was = c.loop-place.invariant in
    let place = c.loop-place.place in
    let some : 0 < place = omega (arith, c.loop-place-test.true) in
    let inside : place - 1 < length ts = omega (arith, was.most, some) in
    record {
      value = older_behind c.args.dim (standing c.args.row.now ts) place c.loop-place.oldest some
          (rw (length-map ts (message_of_ticket c.args.row.now)) inside) was.value
          (sym c.goes_first.ensures.value ∙ c.if-goes_first.false);
      within = was.within;
      most = omega (arith, inside);
    }
