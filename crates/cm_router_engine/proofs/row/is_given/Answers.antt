use Rattle.std.proofs.Common.{ap}
use Rattle.std.proofs.lemmas.Bool.{ne_eqb}
use Rattle.std.proofs.lemmas.List.{get_or_default}
use Rattle.cm_model.specs.declared.message.Message.{Message}
use Rattle.cm_router_engine.specs.Standing.{no_message, message_of_ticket}
use Rattle.cm_router_engine.proofs.row.is_given.Goals as goal

pub returns-then-ticket-ne0 : goal.returns-then-ticket-ne0
returns-then-ticket-ne0 c = record {
  kept = λ no before chip able seen gone.
      c.who_has_not_arrived_is_kept.ensures.law before seen _ chip
      (ne_eqb c.args.ticket.rel 0 c.if-ticket-ne0.true) gone;
}

pub returns : goal.returns
returns c = record {
  kept = λ no before chip able seen gone.
      c.receives.ensures.kept no before chip seen (message_of_ticket c.args.row.now c.args.ticket)
      (rw c.from.ensures (ap (λ (x : Message). x.proc)
      (get_or_default c.args.row.now c.args.ticket.number no_message c.index-row-from.result c.requires.kept)))
      able gone;
}
