use Rattle.std.proofs.Common.{◌+◌, ◌<◌, length, ◌∙◌, arith}
use Rattle.cm_petit.specs.Routers.{events_of}
use Rattle.cm_array.proofs.Laying.{log_laid, log_left}
use Rattle.cm_array.proofs.put.move_logs.Goals as goal

pub loop-i-preserved : goal.loop-i-preserved
loop-i-preserved c =
    let i = c.loop-i.i in
    let at = c.args.at in
    let here : at + i < length c.loop-i.to = omega (arith, c.requires.here, c.loop-i-test.true, c.loop-i.auto.to) in
    let there : i < length c.loop-i.from = omega (arith, c.loop-i-test.true, c.loop-i.auto.from) in
    record {
      laid = log_laid at i c.loop-i.to c.loop-i.from (events_of c.args.from.now)
          c.swap.new.x c.index-from-i.result here there
          c.swap.ensures.x_after c.loop-i.invariant.laid (c.loop-i.invariant.rest i (omega arith));
      rest = λ k l. log_left c.loop-i.from i k c.swap.new.y (omega (arith, l))
          ∙ c.loop-i.invariant.rest k (omega (arith, l));
      below = λ k l. log_left c.loop-i.to (at + i) k c.swap.new.x (omega (arith, l)) ∙ c.loop-i.invariant.below k l;
      above = λ k l. log_left c.loop-i.to (at + i) k c.swap.new.x (omega (arith, l))
          ∙ c.loop-i.invariant.above k (omega (arith, l));
    }
