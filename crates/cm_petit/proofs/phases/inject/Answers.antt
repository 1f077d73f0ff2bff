use Rattle.std.proofs.Common.{arith, refl, ◌+◌, length}
use Rattle.cm_blocks.specs.Steps.{part_after}
use Rattle.cm_petit.proofs.Making.{injecting, made_none, made_past, made_more, made_all, injecting_nothing}
use Rattle.cm_petit.proofs.Making.{injecting_passed, log_takes}
use Rattle.cm_petit.proofs.phases.inject.Goals as goal

pub returns-then-is_idle-clause-value : goal.returns-then-is_idle-clause-value
unfolding part_after
returns-then-is_idle-clause-value c = λ routing.
    let are = c.requires.routers in
    made_all {f = injecting c.args.sizes.dims c.args.sizes.room c.args.clock} {most = 4} routing _
    (made_past (length c.args.run.now) (made_none are.chip_count are.buffer_count are.log_count) (omega arith)
    (λ k from l e. injecting_nothing c.args.sizes.dims c.args.sizes.room c.args.clock (c.args.first + k) _
    (c.is_idle.ensures.idle c.if-is_idle.true k (omega (arith, l, are.chip_count))))) (omega arith)

pub inject-requires-clause-log_room : goal.inject-requires-clause-log_room
inject-requires-clause-log_room c =
    log_takes c.index-logs-c.result c.loop-c.invariant.injected c.requires.routers.log_count c.loop-c-test.true
    c.requires.log_room

pub loop-c-init : goal.loop-c-init
loop-c-init c =
    let routers = c.requires.routers in
    record {
      injected = made_past _ (made_none routers.chip_count routers.buffer_count routers.log_count) (omega arith)
          (λ k from l e. injecting_passed c.args.sizes.dims c.args.sizes.room c.args.clock (c.args.first + k) _ _ e
          (c.next_injecting-c.ensures.none k from l));
      records = c.new-records.ensures.value c.args.run.now;
      within = routers.within;
    }

pub loop-c-preserved : goal.loop-c-preserved
loop-c-preserved c =
    let next = c.next_injecting-c-in-loop-c.ensures in
    let more = rw (← c.inject.ensures.chip, ← c.inject.ensures.value) at
    (made_more _ c.index-logs-c.result c.inject.new.log c.loop-c.invariant.injected refl
    (omega (arith, c.loop-c-test.true, c.loop-c.auto.logs, c.requires.routers.log_count)) c.inject.ensures.log
    c.inject.ensures.len c.inject.ensures.capacity) in
    record {
      injected = made_past _ more next.from (λ k from l e. injecting_passed c.args.sizes.dims c.args.sizes.room
          c.args.clock (c.args.first + k) _ _ e (next.none k from l));
      records = c.inject.ensures.records;
      within = c.inject.ensures.within;
    }

pub returns-clause-value : goal.returns-clause-value
unfolding part_after
returns-clause-value c = λ routing.
    made_all routing _ c.loop-c.invariant.injected (omega (arith, c.requires.routers.log_count))
