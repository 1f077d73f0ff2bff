use Rattle.std.proofs.Common.{sym}
use Rattle.cm_model.specs.Array.{nth_or_nil}
use Rattle.cm_slots.proofs.Moves.{told_by_one, told_by_nobody}
use Rattle.cm_slots.proofs.ticket_queues.TicketQueues.has_arrival.Goals as goal

pub returns-in-Some : goal.returns-in-Some
returns-in-Some c = record {
  value = sym (told_by_one c.in-Some.ticket (nth_or_nil c.args.self.now c.args.chip) c.requires.few c.in-Some.ensures.value);
}

pub returns-in-None : goal.returns-in-None
returns-in-None c = record {
  value = sym (told_by_nobody (nth_or_nil c.args.self.now c.args.chip) c.in-None.ensures.value);
}
