use Rattle.std.proofs.Common.{◌≡◌, ℕ, ◌-◌, ◌<◌, ◌≤◌, false, get_or}
use Rattle.cm_model.specs.Array.{nth_or_nil}
use Rattle.cm_slots.specs.Tickets.{has_to_go}
use Rattle.cm_router_engine.specs.Standing.{no_ticket}
use Rattle.cm_router_engine.proofs.choosing.first_to_cross.Given as goal

abbrev pub decreases-loop-ticket : goal.decreases-loop-ticket
decreases-loop-ticket l = 15 - l.place

abbrev pub invariant-loop-ticket : goal.invariant-loop-ticket
invariant-loop-ticket l = record {
  none : (k : ℕ) → k < l.place → has_to_go l.dim (get_or (nth_or_nil l.slots l.chip) k no_ticket) ≡ false;
  most : l.place ≤ 15;
}
