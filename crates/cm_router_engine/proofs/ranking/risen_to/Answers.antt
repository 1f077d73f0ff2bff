use Rattle.cm_router_engine.proofs.Rising.{rising_more}
use Rattle.cm_router_engine.proofs.ranking.risen_to.Goals as goal

pub loop-risen-preserved : goal.loop-risen-preserved
loop-risen-preserved c =
    rising_more c.args.row.now c.loop-risen.risen c.loop-risen-test.true (c.rises_at.ensures.older c.if-rises_at.true)
    c.loop-risen.invariant
