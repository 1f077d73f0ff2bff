use Rattle.std.proofs.Common.{slice_index}
use Rattle.cm_slots.proofs.Carrying.{AreDoneFrom}
use Rattle.cm_slots.proofs.rows.put_lanes.Given as goal

abbrev pub invariant-loop-j : goal.invariant-loop-j
invariant-loop-j l = AreDoneFrom l.at (λ j. slice_index l.lanes j) l.initial.row l.row l.j
