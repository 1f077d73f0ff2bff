use Rattle.std.proofs.Common.{length, ap, ◌∙◌, sym, refl}
use Rattle.cm_slots.proofs.Views.{tiles_kept, within_everywhere, items-lent}
use Rattle.cm_slots.proofs.Moves.{tile_inside, moved_queues, moved_past, queues_over-none}
use Rattle.cm_slots.proofs.moving.settle.Goals as goal

pub move_over-requires : goal.move_over-requires
move_over-requires c =
    let queues = c.requires.queues.1 in
    let are = queues.kept.are in
    rw (c.deref_mut.ensures.value, c.deref_mut-then-noted-ne0.ensures.value) (record {
      rows = are.rows;
      across = tile_inside are refl queues.movable.inside;
      whole = are.whole;
      few = within_everywhere are refl 1 (queues.movable.few c.if-noted-ne0.true);
    })

pub returns-then-noted-ne0-clause-value : goal.returns-then-noted-ne0-clause-value
returns-then-noted-ne0-clause-value c = λ chips queues.
    let are = queues.kept.are in
    let new = c.move_over.new.tiles in
    let long = c.move_over.auto.tiles ∙ ap length c.deref_mut.ensures.value in
    let rows = c.move_over.auto.firsts ∙ ap length c.deref_mut-then-noted-ne0.ensures.value in
    let moved = rw c.deref_mut.ensures.value at c.move_over.ensures.value in
    record {
      kept = record {
        are = rw (items-lent c.args.tiles.now new long, items-lent c.args.leaving.now c.move_over.new.firsts rows)
            (tiles_kept are refl new long rows c.move_over.ensures.whole
            (moved_past are refl queues.movable.inside new moved));
        space = queues.kept.space;
        rows_space = queues.kept.rows_space;
      };
      value = rw (items-lent c.args.tiles.now new long) (moved_queues are refl queues.movable.inside new moved long);
    }

pub returns-else-noted-ne0-clause-value : goal.returns-else-noted-ne0-clause-value
returns-else-noted-ne0-clause-value c = λ chips queues. record {
  kept = queues.kept;
  value = rw c.if-noted-ne0.false (sym (queues_over-none _));
}
