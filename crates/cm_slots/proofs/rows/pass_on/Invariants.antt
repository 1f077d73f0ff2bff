use Rattle.std.proofs.Common.{◌+◌, slice_index, if◌then◌else◌}
use Rattle.cm_slots.specs.Slots.{crosses}
use Rattle.cm_slots.proofs.Carrying.{AreDone, AreDoneFrom}
use Rattle.cm_slots.proofs.rows.pass_on.Given as goal

abbrev pub invariant-loop-j : goal.invariant-loop-j
invariant-loop-j l = record {
  carried : AreDone (λ j. if crosses l.dim (slice_index l.initial.carried j) then slice_index l.initial.carried j
      else slice_index l.initial.row (l.at + j)) l.initial.carried l.carried l.j;
  row : AreDoneFrom l.at (λ j. if crosses l.dim (slice_index l.initial.carried j) then slice_index l.initial.row
      (l.at + j) else slice_index l.initial.carried j) l.initial.row l.row l.j;
}
