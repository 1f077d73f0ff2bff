use Rattle.std.proofs.Common.{arith}
use Rattle.cm_router.proofs.Taking.{next_asking, next_is}
use Rattle.cm_router.proofs.senders.Senders.next.Goals as goal

pub returns-clause-some : goal.returns-clause-some
returns-clause-some c =
    let was = c.self.inside in
    rw (← c.self.view_is) (next_is c.new.result _ _ _ c.new.ensures.value (next_asking was.asking was.left
    (omega (arith, c.if-self-eq0.false)) (omega arith) (omega (arith, c.if-self-eq0-2.false))))
