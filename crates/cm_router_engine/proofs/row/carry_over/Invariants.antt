use Rattle.std.proofs.Common.{◌≡◌, ℕ, ◌+◌, ◌-◌, ◌<◌, ◌≤◌, ◌++◌, length, take, get_or, vec_len, vec_capacity}
use Rattle.cm_model.specs.Array.{nth_or_nil}
use Rattle.cm_router_engine.specs.Standing.{standing, no_ticket, IsWritten}
use Rattle.cm_router_engine.proofs.row.carry_over.Given as goal

abbrev pub decreases-loop-ticket : goal.decreases-loop-ticket
decreases-loop-ticket l = 15 - l.place

abbrev pub invariant-loop-ticket : goal.invariant-loop-ticket
invariant-loop-ticket l = record {
  items : l.spare.items ≡ l.fn.spare.items ++ standing l.row (take l.place (nth_or_nil l.fn.slots l.here));
  long : length (nth_or_nil l.slots l.here) ≡ length (nth_or_nil l.fn.slots l.here);
  done : (j : ℕ) → j < l.place → get_or (nth_or_nil l.slots l.here) j no_ticket
      ≡ record { rel = (get_or (nth_or_nil l.fn.slots l.here) j no_ticket).rel; number = length l.fn.spare.items + j };
  ahead : (j : ℕ) → l.place ≤ j
      → get_or (nth_or_nil l.slots l.here) j no_ticket ≡ get_or (nth_or_nil l.fn.slots l.here) j no_ticket;
  others : IsWritten l.here l.fn.slots l.slots;
  most : l.place ≤ 15;
  len : vec_len l.spare ≡ vec_len l.fn.spare + l.place;
  capacity : vec_capacity l.fn.spare ≤ vec_capacity l.spare;
}
