use Rattle.std.proofs.Common.{◌*◌, [], length}
use Rattle.lab_figures.specs.Looks.{wider_row}
use Rattle.lab_figures.proofs.Enlarging.{row_longer}
use Rattle.lab_figures.proofs.Growing.{part_more}
use Rattle.lab_figures.proofs.looks.repeated.Goals as goal

pub loop-y-preserved : goal.loop-y-preserved
loop-y-preserved c = record {
  value = part_more (wider_row c.args.k c.args.picture.now) [] c.loop-y.dots.items c.push_wider_row.new.dots.items
      c.loop-y.y c.loop-y.invariant.value c.in_ok-push_wider_row.ensures.ok;
  count = row_longer c.loop-y.y (c.args.k * c.args.picture.now.width) (length c.loop-y.dots.items)
      (length c.push_wider_row.new.dots.items) c.loop-y.invariant.count c.in_ok-push_wider_row.ensures.count;
}
