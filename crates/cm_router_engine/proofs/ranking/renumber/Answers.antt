use Rattle.std.proofs.Common.{[], map, sym, ◌∙◌, arith, ext_get_or}
use Rattle.std.proofs.lemmas.List.{length-map, get_or-map}
use Rattle.cm_router_engine.specs.Ranking.{moved_ticket}
use Rattle.cm_router_engine.proofs.ranking.renumber.Goals as goal

pub returns : goal.returns
returns c =
    let was = c.loop-c.invariant in
    let f = map (moved_ticket c.args.moved.now) in
    record {
      value = ext_get_or [] c.loop-c.slots (map f c.args.slots.now) (was.long ∙ sym (length-map c.args.slots.now f))
          (λ k l. was.done k (omega (arith, l, was.long, c.chips-c-end.ensures.value, c.loop-c-test.false))
          ∙ sym (get_or-map f c.args.slots.now k [] [] (omega (arith, l, was.long))));
    }
