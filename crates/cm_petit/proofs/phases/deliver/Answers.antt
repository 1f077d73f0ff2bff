use Rattle.std.proofs.Common.{◌∙◌, arith, refl}
use Rattle.cm_blocks.specs.Steps.{part_after}
use Rattle.cm_router_engine.proofs.Arrived.{known_behind, known_from}
use Rattle.cm_petit.proofs.Making.{made_none, made_past, made_more, made_all, delivering_nothing, log_takes}
use Rattle.cm_petit.proofs.phases.deliver.Goals as goal

pub loop-c-init : goal.loop-c-init
loop-c-init c =
    let routers = c.requires.routers in
    let none = c.new-deliveries.ensures.value in
    record {
      delivered = rw none (made_past _ (made_none routers.chip_count routers.buffer_count routers.log_count) (omega arith)
          (λ k from l e. delivering_nothing _ _ _ e (c.next_arrived-c.ensures.none k from l)
          (c.pass_over.ensures.same k
          (omega (arith, l, c.next_arrived-c.ensures.most, routers.chip_count, routers.buffer_count)))));
      chips = routers.chip_count;
      most = omega (arith, c.next_arrived-c.ensures.most, routers.buffer_count);
      before = rw none (λ k d l. absurd (omega arith));
      within = routers.within;
      known = known_from _ _ _ _ c.next_arrived-c.ensures.from c.next_arrived-c.ensures.known;
    }

pub deliver-requires-clause-log_room : goal.deliver-requires-clause-log_room
deliver-requires-clause-log_room c =
    log_takes c.index-logs-c.result c.loop-c.invariant.delivered c.requires.routers.log_count c.loop-c-test.true
    c.requires.log_room

pub loop-c-preserved : goal.loop-c-preserved
loop-c-preserved c =
    let next = c.next_arrived-c-in-loop-c.ensures in
    let was = rw (← c.make_room.ensures.value) at c.loop-c.invariant.delivered in
    let more = rw (← c.deliver.ensures.chip, ← c.deliver.ensures.value) at
    (made_more _ c.index-logs-c.result c.deliver.new.log was refl
    (omega (arith, c.loop-c-test.true, c.loop-c.auto.logs, c.requires.routers.log_count)) c.deliver.ensures.log
    c.deliver.ensures.len c.deliver.ensures.capacity) in
    record {
      delivered = made_past _ more next.from (λ k from l e. delivering_nothing _ _ _ e (next.none k from l)
          (c.pass_over.ensures.same k (omega (arith, l, next.most, more.done.buffer_count, c.requires.routers.chip_count))));
      chips = c.make_room.ensures.chips ∙ c.loop-c.invariant.chips;
      most = omega (arith, next.most, more.done.buffer_count);
      before = λ k d l. omega (arith, c.deliver.ensures.before k d l, next.from);
      within = c.deliver.ensures.within;
      known = known_from _ _ _ _ next.from next.known;
    }

pub next_arrived-c-requires-in-loop-c-clause-known : goal.next_arrived-c-requires-in-loop-c-clause-known
next_arrived-c-requires-in-loop-c-clause-known c =
    known_behind _ _ _ c.loop-c.c c.loop-c.c _ c.loop-c.invariant.known (omega arith) c.deliver.ensures.value

pub next_arrived-c-requires-clause-known : goal.next_arrived-c-requires-clause-known
next_arrived-c-requires-clause-known c = c.new-known.ensures.value 0 _ _

pub put_down-requires : goal.put_down-requires
put_down-requires c =
    record { within = λ k d l. omega (arith, c.loop-c.invariant.before k d l, c.loop-c.invariant.most, c.loop-c.invariant.chips) }

pub returns-clause-value : goal.returns-clause-value
unfolding part_after
returns-clause-value c = λ routing clock.
    rw c.put_down.ensures.value
    (made_all routing _ c.loop-c.invariant.delivered (omega (arith, c.requires.routers.log_count)))
