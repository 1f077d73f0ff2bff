use Rattle.std.proofs.lemmas.Bool.{ne_eqb}
use Rattle.cm_router_engine.proofs.row.is_delivered.Goals as goal

pub returns-then-ticket-ne0-clause-step : goal.returns-then-ticket-ne0-clause-step
returns-then-ticket-ne0-clause-step c = λ before now seen gone able.
    c.who_has_not_arrived_is_kept.ensures.law before seen _ now (ne_eqb c.args.ticket.rel 0 c.if-ticket-ne0.true) gone

pub returns-clause-step : goal.returns-clause-step
returns-clause-step c = λ before now seen gone able.
    rw c.message_of.ensures.value at (c.hand_over.ensures.step before now seen gone able)
