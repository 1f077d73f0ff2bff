use Rattle.std.proofs.Common.{◌≡◌, ◌-◌, ◌<◌, ◌≤◌, ℕ, false, Some, List, length}
use Rattle.std.specs.List.{slice_get}
use Rattle.cm_model.specs.declared.message.Message.{Message}
use Rattle.cm_model.specs.Array.{nth_or_nil}
use Rattle.cm_model.specs.Chip.{IsPlane}
use Rattle.cm_model.specs.Letters.{can_receive}
use Rattle.cm_model.specs.Processor.{Processor}
use Rattle.cm_model.specs.Delivery.{HasDelivered, HasHandedOver}
use Rattle.cm_slots.specs.declared.ticket.Ticket.{Ticket}
use Rattle.cm_router_engine.specs.Standing.{message_of_ticket}
use Rattle.cm_router_engine.proofs.row.next_given.Given as goal

abbrev pub decreases-loop-ticket : goal.decreases-loop-ticket
decreases-loop-ticket l = 15 - l.place

abbrev pub invariant-loop-ticket : goal.invariant-loop-ticket
invariant-loop-ticket l = record {
  passed : (j : ℕ) (t : Ticket) → l.from ≤ j → j < l.place → Some t ≡ slice_get (nth_or_nil l.slots l.here) j
      → (before chip : List Processor) → IsPlane l.receivers (can_receive chip) → (seen : List Message)
      → HasDelivered before seen chip → HasHandedOver false before seen (message_of_ticket l.row t) chip;
  from : l.from ≤ l.place;
  within : l.place ≤ length (nth_or_nil l.slots l.here);
}
