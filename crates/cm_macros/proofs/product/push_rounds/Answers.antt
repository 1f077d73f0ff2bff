use Rattle.std.proofs.Common.{◌<◌, arith}
use Rattle.cm_language.specs.Acts.{product_round}
use Rattle.cm_macros.proofs.Lists.{rounds_more, length-rounds_more, room_for_round}
use Rattle.cm_macros.proofs.product.push_rounds.Goals as goal

pub push_round-requires-clause-room : goal.push_round-requires-clause-room
push_round-requires-clause-room c =
    let inside : c.loop-j.j < c.args.d.len = omega arith in
    omega (arith, room_for_round c.args.d c.args.x c.args.y c.loop-j.j inside)

pub loop-j-preserved : goal.loop-j-preserved
loop-j-preserved c = record {
  items = rounds_more c.args.list.now.items c.loop-j.list.items c.push_round.new.list.items c.loop-j.j
      (product_round c.args.d c.args.x c.args.y)
      c.loop-j.invariant.items c.push_round.ensures.items;
  len = omega (arith, length-rounds_more c.args.d c.args.x c.args.y c.loop-j.j);
  capacity = omega arith;
}
