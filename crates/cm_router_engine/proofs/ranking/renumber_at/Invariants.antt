use Rattle.std.proofs.Common.{◌≡◌, ℕ, ◌-◌, ◌<◌, ◌≤◌, length, get_or}
use Rattle.cm_model.specs.Array.{nth_or_nil}
use Rattle.cm_router_engine.specs.Standing.{no_ticket, IsWritten}
use Rattle.cm_router_engine.specs.Ranking.{moved_ticket}
use Rattle.cm_router_engine.proofs.ranking.renumber_at.Given as goal

abbrev pub decreases-loop-ticket : goal.decreases-loop-ticket
decreases-loop-ticket l = 15 - l.place

abbrev pub invariant-loop-ticket : goal.invariant-loop-ticket
invariant-loop-ticket l = record {
  long : length (nth_or_nil l.slots l.here) ≡ length (nth_or_nil l.fn.slots l.here);
  done : (j : ℕ) → j < l.place → get_or (nth_or_nil l.slots l.here) j no_ticket
      ≡ moved_ticket l.moved (get_or (nth_or_nil l.fn.slots l.here) j no_ticket);
  ahead : (j : ℕ) → l.place ≤ j
      → get_or (nth_or_nil l.slots l.here) j no_ticket ≡ get_or (nth_or_nil l.fn.slots l.here) j no_ticket;
  others : IsWritten l.here l.fn.slots l.slots;
  most : l.place ≤ 15;
}
