use Rattle.std.proofs.Common.{arith, ℕ, refl, ap, ◌<◌, ◌^◌, [], ◌∙◌}
use Rattle.std.specs.List.{list_any}
use Rattle.cm_model.specs.Letters.{has_arrived}
use Rattle.cm_blocks.specs.Steps.{part_after}
use Rattle.cm_router.specs.Routes.{routing_of}
use Rattle.cm_router.specs.Rows.{with_row}
use Rattle.cm_router.proofs.Telling.{length-with_row}
use Rattle.cm_petit.specs.Routers.{machine_from, part_from}
use Rattle.cm_petit.proofs.Making.{delivering, done_none, done_past, done_all, delivering_nothing}
use Rattle.cm_petit.proofs.IntoRow.{row_left, row_taken_twice}
use Rattle.cm_petit.proofs.Cycling.{injected_whole, delivered_whole, cycle_is, nothing_crosses}
use Rattle.cm_petit.proofs.machine.cycle.Goals as goal

pub deliver-requires-clause-log_room : goal.deliver-requires-clause-log_room
deliver-requires-clause-log_room c =
    let done = c.inject.ensures in
    row_left (2 ^ c.args.sizes.dims) 4 c.args.sizes.room c.args.row.now c.inject.new.row c.requires.log_room done.len
    done.capacity

pub returns-then-is_empty-clause-value : goal.returns-then-is_empty-clause-value
unfolding part_after
returns-then-is_empty-clause-value c = λ logs long.
    let n = c.args.sizes.dims in
    let now = c.inject.new in
    let are = c.inject.ensures.buffers in
    let empty = λ (k : ℕ) (l : k < 2 ^ n).
    c.is_empty.ensures.none.0 c.if-is_empty.true k [] (omega (arith, are.buffer_count)) in
    let routing = routing_of c.args.routing.now in
    let told = with_row logs now.row.items in
    cycle_is n c.args.sizes.room _ (injected_whole _ _ _ refl refl (c.inject.ensures.value routing logs long))
    (nothing_crosses n c.args.sizes.room (machine_from routing now.run now.crossing.buffers told c.args.clock.now)
    c.args.sizes.bounds.some_room are.buffer_count empty n (omega arith))
    (delivered_whole n c.args.sizes.room
    (part_from routing 0 (2 ^ n) now.run now.crossing.buffers told c.args.clock.now) refl refl
    (done_all {f = delivering} {count = 2 ^ n} routing _
    (done_past (2 ^ n) (done_none are.chip_count are.buffer_count (length-with_row logs _ ∙ long)) (omega arith)
    (λ k from l e. delivering_nothing _ _ _ e (ap (list_any has_arrived) (empty k l))
    (c.pass_over.ensures.same k (omega (arith, l, are.chip_count))))) (omega arith)))

pub returns-clause-value : goal.returns-clause-value
returns-clause-value c = λ logs long.
    let routing = routing_of c.args.routing.now in
    let now = c.inject.new in
    cycle_is c.args.sizes.dims c.args.sizes.room _
    (injected_whole _ _ _ refl refl (c.inject.ensures.value routing logs long))
    (c.cross_all.ensures.value now.run (with_row logs now.row.items) c.args.clock.now)
    (delivered_whole _ _ _ refl refl (c.deliver.ensures.value routing logs c.args.clock.now long))

pub returns-clause-len : goal.returns-clause-len
returns-clause-len c =
    row_taken_twice (2 ^ c.args.sizes.dims) 4 c.args.sizes.room c.args.row.now c.inject.new.row c.deliver.new.row
    c.inject.ensures.len c.deliver.ensures.len
