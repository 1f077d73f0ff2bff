use Rattle.std.proofs.Common.{arith}
use Rattle.cm_element.proofs.Spreading.{more_zeros}
use Rattle.cm_element.proofs.run.memory.next_in_use.Goals as goal

pub loop-at-preserved : goal.loop-at-preserved
loop-at-preserved c = record {
  none = more_zeros c.args.slots.now c.args.from c.loop-at.at c.passed-at.result c.loop-at.invariant.none
      c.passed-at.ensures.none;
  none_there = more_zeros c.args.others.now c.args.from c.loop-at.at c.passed-at.result
      c.loop-at.invariant.none_there c.passed-at.ensures.none_there;
  from = omega (arith, c.loop-at.invariant.from);
  most = c.passed-at.ensures.within;
}
