use Rattle.std.proofs.Common.{◌≡◌, ℕ, ◌+◌, ◌<◌, ◌≤◌, length, get_or, None}
use Rattle.cm_model.specs.Array.{nth_or_nil}
use Rattle.cm_model.specs.Wiring.{way_of}
use Rattle.cm_router.specs.Routes.{routing_of}
use Rattle.cm_router_engine.specs.Routed.{ticket_leaving, tickets_staying}
use Rattle.cm_router_engine.proofs.routed.leave_by_chip.Given as goal

abbrev pub invariant-loop-chip : goal.invariant-loop-chip
invariant-loop-chip l = record {
  long : length l.slots ≡ length l.fn.slots;
  done : (c : ℕ) → c < l.chip → nth_or_nil l.slots c
      ≡ tickets_staying l.row (way_of (routing_of l.routing) (l.first + c) l.dim) l.sizes.room l.dim (nth_or_nil l.fn.slots c);
  gone : (c : ℕ) → c < l.chip → get_or l.leavers c None
      ≡ ticket_leaving l.row (way_of (routing_of l.routing) (l.first + c) l.dim) l.sizes.room l.dim (nth_or_nil l.fn.slots c);
  ahead : (c : ℕ) → l.chip ≤ c → nth_or_nil l.slots c ≡ nth_or_nil l.fn.slots c;
}
