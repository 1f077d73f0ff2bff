use Rattle.std.proofs.Common.{◌+◌, slice_index, replicate}
use Rattle.cm_slots.proofs.Carrying.{AreDone}
use Rattle.cm_slots.proofs.rows.lanes_from.Given as goal

abbrev pub invariant-loop-j : goal.invariant-loop-j
invariant-loop-j l = AreDone (λ j. slice_index l.row (l.at + j)) (replicate 16 0) l.lanes l.j
