use Rattle.std.proofs.Common.{sym}
use Rattle.cm_petit.specs.Routers.{events_of}
use Rattle.cm_array.proofs.Dealing.{dealt-nil, one_more_dealt}
use Rattle.cm_array.proofs.row.deal.Goals as goal

pub loop-i-init : goal.loop-i-init
loop-i-init c = sym (dealt-nil c.args.first (events_of c.args.logs.now))

pub loop-i-preserved : goal.loop-i-preserved
loop-i-preserved c =
    one_more_dealt c.args.first c.loop-i.i c.args.row.now c.index-row-i.result (events_of c.args.logs.now)
    (events_of c.loop-i.logs) (events_of c.tell.new.logs) c.loop-i-test.true c.index-row-i.is c.loop-i.invariant
    c.in-Ok.ensures.ok
