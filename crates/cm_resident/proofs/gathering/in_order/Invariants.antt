use Rattle.std.proofs.Common.{◌≤◌, vec_capacity}
use Rattle.cm_resident.proofs.Rows.{AreRowsTaken}
use Rattle.cm_resident.proofs.gathering.in_order.Given as goal

abbrev pub invariant-loop-row : goal.invariant-loop-row
invariant-loop-row g l = record {
  room : l.fn.total ≤ vec_capacity l.things;
  taken : AreRowsTaken l.total l._row l.fn.hands.items l.hands.items l.things.items;
}
