use Rattle.std.proofs.Common.{◌∙◌, arith, refl}
use Rattle.cm_blocks.specs.Steps.{part_after}
use Rattle.cm_router.proofs.Telling.{told_of_delivered}
use Rattle.cm_router_engine.proofs.Arrived.{known_behind, known_from}
use Rattle.cm_petit.proofs.Making.{done_all, delivering_nothing}
use Rattle.cm_petit.proofs.IntoRow.{told_none, told_past, told_one, row_takes, row_taken}
use Rattle.cm_petit.proofs.machine.deliver.Goals as goal

pub loop-c-init : goal.loop-c-init
loop-c-init c =
    let are = c.requires.buffers in
    let none = c.new-deliveries.ensures.value in
    record {
      delivered = rw none (told_past _ (told_none are.chip_count are.buffer_count) (omega arith)
          (omega (arith, c.next_arrived-c.ensures.most, are.buffer_count))
          (λ ls k from l e. delivering_nothing _ _ _ e (c.next_arrived-c.ensures.none k from l)
          (c.pass_over.ensures.same k
          (omega (arith, l, c.next_arrived-c.ensures.most, are.chip_count, are.buffer_count)))));
      chips = refl;
      before = rw none (λ k d l. absurd (omega arith));
      within = are.within;
      known = known_from _ _ _ _ c.next_arrived-c.ensures.from c.next_arrived-c.ensures.known;
    }

pub deliver-requires-clause-log_room : goal.deliver-requires-clause-log_room
deliver-requires-clause-log_room c =
    row_takes c.loop-c.invariant.delivered (omega arith) c.requires.log_room

pub loop-c-preserved : goal.loop-c-preserved
loop-c-preserved c =
    let next = c.next_arrived-c-in-loop-c.ensures in
    let done = c.deliver.ensures in
    let was = rw (← c.make_room.ensures.value) at c.loop-c.invariant.delivered in
    let more = told_one _ was (omega arith) (λ ls. refl) done.chip done.value done.log (told_of_delivered _ _)
    done.len done.capacity in
    record {
      delivered = told_past _ more next.from (omega (arith, next.most, more.buffer_count))
          (λ ls k from l e. delivering_nothing _ _ _ e (next.none k from l)
          (c.pass_over.ensures.same k (omega (arith, l, next.most, more.buffer_count, c.requires.buffers.chip_count))));
      chips = c.make_room.ensures.chips ∙ c.loop-c.invariant.chips;
      before = λ k d l. omega (arith, done.before k d l, next.from);
      within = done.within;
      known = known_from _ _ _ _ next.from next.known;
    }

pub next_arrived-c-requires-in-loop-c-clause-known : goal.next_arrived-c-requires-in-loop-c-clause-known
next_arrived-c-requires-in-loop-c-clause-known c =
    known_behind _ _ _ c.loop-c.c c.loop-c.c _ c.loop-c.invariant.known (omega arith) c.deliver.ensures.value

pub next_arrived-c-requires-clause-known : goal.next_arrived-c-requires-clause-known
next_arrived-c-requires-clause-known c = c.new-known.ensures.value 0 _ _

pub put_down-requires : goal.put_down-requires
put_down-requires c =
    let is = c.loop-c.invariant in
    record { within = λ k d l. omega (arith, is.before k d l, is.delivered.inside, is.chips, c.requires.buffers.chip_count) }

pub returns-clause-value : goal.returns-clause-value
unfolding part_after
returns-clause-value c = λ routing logs clock long.
    rw c.put_down.ensures.value (done_all routing _ (c.loop-c.invariant.delivered.done logs long) (omega arith))

pub returns-clause-len : goal.returns-clause-len
returns-clause-len c = row_taken c.loop-c.invariant.delivered
