use Rattle.std.proofs.Common.{arith, ◌+◌, ◌^◌, ◌∙◌, refl}
use Rattle.cm_blocks.specs.Steps.{part_after}
use Rattle.cm_router.proofs.Telling.{length-with_row, told_of_sent}
use Rattle.cm_petit.proofs.Making.{injecting, done_none, done_past, done_all, injecting_nothing, injecting_passed}
use Rattle.cm_petit.proofs.IntoRow.{told_none, told_past, told_one, row_takes, row_taken}
use Rattle.cm_petit.proofs.machine.inject.Goals as goal

pub returns-then-is_idle-clause-value : goal.returns-then-is_idle-clause-value
unfolding part_after
returns-then-is_idle-clause-value c = λ routing logs long.
    let are = c.requires.buffers in
    done_all {f = injecting c.args.sizes.dims c.args.sizes.room c.args.clock} routing _
    (done_past (2 ^ c.args.sizes.dims) (done_none are.chip_count are.buffer_count (length-with_row logs _ ∙ long))
    (omega arith) (λ k from l e. injecting_nothing c.args.sizes.dims c.args.sizes.room c.args.clock (0 + k) _
    (c.is_idle.ensures.idle c.if-is_idle.true k (omega (arith, l, are.chip_count))))) (omega arith)

pub inject-requires-clause-log_room : goal.inject-requires-clause-log_room
inject-requires-clause-log_room c =
    row_takes c.loop-c.invariant.injected (omega arith) c.requires.log_room

pub loop-c-init : goal.loop-c-init
loop-c-init c =
    let are = c.requires.buffers in
    record {
      injected = told_past _ (told_none are.chip_count are.buffer_count) (omega arith) (omega arith)
          (λ ls k from l e. injecting_passed c.args.sizes.dims c.args.sizes.room c.args.clock (0 + k) _ _ e
          (c.next_injecting-c.ensures.none k from l));
      records = c.new-records.ensures.value c.args.run.now;
      within = are.within;
    }

pub loop-c-preserved : goal.loop-c-preserved
loop-c-preserved c =
    let next = c.next_injecting-c-in-loop-c.ensures in
    let done = c.inject.ensures in
    let more = told_one _ c.loop-c.invariant.injected (omega arith) (λ ls. refl) done.chip done.value done.log
    (told_of_sent _ _ _ _ _) done.len done.capacity in
    record {
      injected = told_past _ more next.from (omega (arith, next.most, more.buffer_count))
          (λ ls k from l e. injecting_passed c.args.sizes.dims c.args.sizes.room c.args.clock (0 + k) _ _ e
          (next.none k from l));
      records = done.records;
      within = done.within;
    }

pub returns-clause-value : goal.returns-clause-value
unfolding part_after
returns-clause-value c = λ routing logs long. done_all routing _ (c.loop-c.invariant.injected.done logs long) (omega arith)

pub returns-clause-len : goal.returns-clause-len
returns-clause-len c = row_taken c.loop-c.invariant.injected
