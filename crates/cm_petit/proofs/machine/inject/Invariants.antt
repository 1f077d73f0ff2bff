use Rattle.std.proofs.Common.{◌-◌, ◌≤◌, ◌^◌, length}
use Rattle.std.specs.List.{All}
use Rattle.cm_router.specs.Records.{AreRecords}
use Rattle.cm_petit.proofs.Making.{injecting}
use Rattle.cm_petit.proofs.IntoRow.{AreTold}
use Rattle.cm_petit.proofs.machine.inject.Given as goal

abbrev pub invariant-loop-c : goal.invariant-loop-c
invariant-loop-c l = record {
  injected : AreTold (injecting l.sizes.dims l.sizes.room l.clock) 4 (2 ^ l.sizes.dims)
      (record { chips = l.fn.run; buffers = l.fn.crossing.buffers; row = l.fn.row })
      (record { chips = l.run; buffers = l.crossing.buffers; row = l.row }) l.c;
  records : AreRecords l.records l.run;
  within : All (λ ms. length ms ≤ l.sizes.room) l.crossing.buffers;
}

abbrev pub decreases-loop-c : goal.decreases-loop-c
decreases-loop-c l = l.chips - l.c
