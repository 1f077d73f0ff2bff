use Rattle.std.proofs.Common.{arith}
use Rattle.cm_macros.proofs.Lists.{length-rounds_more}
use Rattle.cm_macros.proofs.product.count_product.Goals as goal

pub loop-j-preserved : goal.loop-j-preserved
loop-j-preserved c = record {
  counted = omega (arith, length-rounds_more c.args.d c.args.x c.args.y c.loop-j.j);
  within = omega arith;
}
