use Rattle.std.proofs.Common.{◌∙◌, sym, arith}
use Rattle.cm_slots.proofs.Views.{empty_queues, no_queues, tiles_made}
use Rattle.cm_slots.proofs.tiles.put_all.Goals as goal

pub returns : goal.returns
returns c =
    let kept = c.requires.kept in
    let many = c.tiles_for-count.ensures.value in
    let empty = c.put_empty.ensures in
    record {
      kept = record {
        are = tiles_made c.args.chips c.put_empty.new.tiles.items c.put_nobody.new.leaving.items kept.are.few
            (rw many at empty.value) (c.put_nobody.ensures.count ∙ many);
        space = omega (arith, kept.space, empty.capacity);
        rows_space = omega (arith, kept.rows_space, c.put_nobody.ensures.capacity);
      };
      count = empty.value.long ∙ many;
      value = empty_queues c.args.chips c.tiles_for-count.result c.put_empty.new.tiles.items empty.value
          ∙ sym (no_queues c.args.chips c.args.tiles.now.items c.requires.none);
    }
