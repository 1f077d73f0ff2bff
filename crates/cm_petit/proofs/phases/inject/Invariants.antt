use Rattle.std.proofs.Common.{◌-◌, ◌≤◌, length}
use Rattle.std.specs.List.{All}
use Rattle.cm_router.specs.Records.{AreRecords}
use Rattle.cm_petit.proofs.Making.{AreMade, injecting}
use Rattle.cm_petit.proofs.phases.inject.Given as goal

abbrev pub invariant-loop-c : goal.invariant-loop-c
invariant-loop-c l = record {
  injected : AreMade (injecting l.sizes.dims l.sizes.room l.clock) 4 l.first (length l.fn.run)
      (record { chips = l.fn.run; buffers = l.fn.crossing.buffers; logs = l.fn.logs })
      (record { chips = l.run; buffers = l.crossing.buffers; logs = l.logs }) l.c;
  records : AreRecords l.records l.run;
  within : All (λ ms. length ms ≤ l.sizes.room) l.crossing.buffers;
}

abbrev pub decreases-loop-c : goal.decreases-loop-c
decreases-loop-c l = length l.logs - l.c
