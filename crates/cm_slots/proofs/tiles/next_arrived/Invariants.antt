use Rattle.std.proofs.Common.{◌≡◌, ◌-◌, ◌<◌, ◌≤◌, ℕ, false}
use Rattle.std.specs.List.{list_any}
use Rattle.cm_slots.specs.Tickets.{has_come}
use Rattle.cm_slots.specs.Runs.{tickets_of}
use Rattle.cm_slots.specs.Arrivals.{has_come_at, AreArrivals}
use Rattle.cm_slots.proofs.tiles.next_arrived.Given as goal

abbrev pub invariant-loop-chip : goal.invariant-loop-chip
invariant-loop-chip l = record {
  from : l.from ≤ l.chip;
  known : AreArrivals l.known l.from l.chips (has_come_at l.tiles);
  none : (c : ℕ) → l.from ≤ c → c < l.chip → c < l.chips → list_any has_come (tickets_of l.tiles c) ≡ false;
}

abbrev pub decreases-loop-chip : goal.decreases-loop-chip
decreases-loop-chip l = l.chips - l.chip
