use Rattle.std.proofs.Common.{◌≡◌, ◌-◌, ◌≤◌, length}
use Rattle.std.specs.List.{All}
use Rattle.cm_router.specs.Deliveries.{run_after, AreBefore}
use Rattle.cm_router_engine.specs.Arrived.{HaveArrivedAt}
use Rattle.cm_petit.proofs.Making.{AreMade, delivering}
use Rattle.cm_petit.proofs.phases.deliver.Given as goal

abbrev pub invariant-loop-c : goal.invariant-loop-c
invariant-loop-c l = record {
  delivered : AreMade delivering l.sizes.room l.first (length l.fn.run)
      (record { chips = l.fn.run; buffers = l.fn.crossing.buffers; logs = l.fn.logs })
      (record { chips = run_after l.deliveries l.run; buffers = l.crossing.buffers; logs = l.logs }) l.c;
  chips : length l.run ≡ length l.fn.run;
  most : l.c ≤ length l.fn.run;
  before : AreBefore l.c l.deliveries;
  within : All (λ ms. length ms ≤ l.sizes.room) l.crossing.buffers;
  known : HaveArrivedAt l.known l.c l.crossing.buffers;
}

abbrev pub decreases-loop-c : goal.decreases-loop-c
decreases-loop-c l = length l.logs - l.c
