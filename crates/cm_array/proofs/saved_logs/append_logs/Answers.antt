use Rattle.std.proofs.Common.{◌<◌, ◌∙◌, ◌++◌, [], length, get_or, ap, arith}
use Rattle.std.proofs.Common.{get_or-set_other}
use Rattle.std.proofs.lemmas.List.{length-set, length-map}
use Rattle.cm_model.specs.Array.{nth_or_nil}
use Rattle.cm_model.proofs.Each.{is_each}
use Rattle.cm_router.specs.Logs.{Log}
use Rattle.cm_petit.specs.Routers.{events_of}
use Rattle.cm_array.proofs.Behind.{room_behind, one_more_behind}
use Rattle.cm_array.proofs.saved_logs.append_logs.Goals as goal

pub append-requires : goal.append-requires
append-requires c =
    let i = c.loop-c.c in
    let l : i < length c.args.logs.now = omega (arith, c.loop-c-test.true, c.loop-c.auto.logs) in
    let there : i < length c.args.more.now = omega (arith, l, c.requires.count) in
    let room = room_behind c.loop-c.logs c.args.logs.now c.args.more.now i c.index-logs-c.result c.index-more-c.result
    l there (c.loop-c.invariant.rest i c.index-logs-c.result (omega arith)) c.requires.room in
    let one = c.deref.ensures.value ∙ ap (λ (log : Log). log.items) c.index-more-c.is in
    record { room = omega (arith, ap length one, room) }

pub loop-c-preserved : goal.loop-c-preserved
loop-c-preserved c =
    let i = c.loop-c.c in
    let was : i < length c.args.logs.now = omega (arith, c.loop-c-test.true, c.loop-c.auto.logs) in
    let l : i < length c.loop-c.logs = omega (arith, was, c.loop-c.invariant.count) in
    let there : i < length c.args.more.now = omega (arith, was, c.requires.count) in
    let d = c.index-logs-c.result in
    let one = c.deref.ensures.value ∙ ap (λ (log : Log). log.items) c.index-more-c.is in
    let is = c.append.ensures.items ∙ ap (λ xs. (get_or c.loop-c.logs i d).items ++ xs) one in
    record {
      count = length-set c.loop-c.logs i c.append.new.log ∙ c.loop-c.invariant.count;
      behind = one_more_behind c.loop-c.logs c.args.logs.now c.args.more.now i d c.index-more-c.result c.append.new.log
          l was there (c.loop-c.invariant.rest i d (omega arith)) is c.loop-c.invariant.behind;
      rest = λ k e h. get_or-set_other c.loop-c.logs i k c.append.new.log e (omega (arith, h))
          ∙ c.loop-c.invariant.rest k e (omega (arith, h));
    }

pub returns : goal.returns
returns c = record {
  value = is_each [] (length c.args.logs.now)
      (λ k. nth_or_nil (events_of c.args.logs.now) k ++ nth_or_nil (events_of c.args.more.now) k) (events_of c.loop-c.logs)
      (length-map c.loop-c.logs (λ (x : Log). x.items) ∙ c.loop-c.invariant.count)
      (λ k l. c.loop-c.invariant.behind k (omega (arith, l, c.loop-c-test.false, c.loop-c.auto.c-end)));
}
