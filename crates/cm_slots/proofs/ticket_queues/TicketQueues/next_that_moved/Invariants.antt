use Rattle.std.proofs.Common.{◌≡◌, ◌<◌, ◌≤◌, ℕ, false}
use Rattle.std.specs.List.{list_any}
use Rattle.cm_model.specs.Array.{nth_or_nil}
use Rattle.cm_slots.specs.Tickets.{has_come}
use Rattle.cm_slots.proofs.ticket_queues.TicketQueues.next_that_moved.Given as goal

abbrev pub invariant-loop-chip : goal.invariant-loop-chip
invariant-loop-chip l = (c : ℕ) → l.from ≤ c → c < l.chip → list_any has_come (nth_or_nil l.self c) ≡ false
