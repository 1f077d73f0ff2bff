use Rattle.std.proofs.Common.{arith}
use Rattle.cm_slots.proofs.Lanes.{none_left, lowest_lane}
use Rattle.cm_slots.proofs.arrivals.next_lane.Goals as goal

pub returns-then-left-eq0-clause-none : goal.returns-then-left-eq0-clause-none
returns-then-left-eq0-clause-none c = λ none i on below.
    none_left c.args.lanes c.args.from (omega (arith, c.if-left-eq0.true)) i on

pub returns-clause-some : goal.returns-clause-some
returns-clause-some c = lowest_lane c.args.lanes c.args.from (omega arith) (omega (arith, c.if-left-eq0.false))
