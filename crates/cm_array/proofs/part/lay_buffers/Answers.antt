use Rattle.std.proofs.Common.{arith}
use Rattle.cm_array.proofs.Laying.{IsLaid-sliced}
use Rattle.cm_array.proofs.part.lay_buffers.Goals as goal

pub returns : goal.returns
returns c = record {
  value = IsLaid-sliced c.args.at c.args.first c.args.count c.args.from.now.buffers c.args.to.now.buffers
      c.loop-i.to.buffers c.requires.there c.loop-i.invariant.count
      (λ k l. c.loop-i.invariant.laid k (omega (arith, l, c.loop-i-test.false)))
      c.loop-i.invariant.below (λ k l. c.loop-i.invariant.above k (omega (arith, l, c.loop-i.auto.i-end)));
}
