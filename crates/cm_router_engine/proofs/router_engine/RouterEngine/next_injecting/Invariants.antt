use Rattle.std.proofs.Common.{ℕ, ◌-◌, ◌≤◌, ◌<◌}
use Rattle.cm_model.specs.Array.{chip_at, nth_or_nil}
use Rattle.cm_router.specs.Idle.{IsPassedOver}
use Rattle.cm_router_engine.proofs.router_engine.RouterEngine.next_injecting.Given as goal

abbrev pub decreases-loop-chip : goal.decreases-loop-chip
decreases-loop-chip l = l.chips - l.chip

abbrev pub invariant-loop-chip : goal.invariant-loop-chip
invariant-loop-chip l = record {
  none : (c : ℕ) → l.from ≤ c → c < l.chip
      → IsPassedOver l.sizes.room (nth_or_nil l.self.buffers c) (chip_at l.run c);
  from : l.from ≤ l.chip;
  most : l.chip ≤ l.chips;
}
