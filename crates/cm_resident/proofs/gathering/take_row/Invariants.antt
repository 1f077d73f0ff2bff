use Rattle.std.proofs.Common.{◌≤◌, vec_capacity}
use Rattle.cm_resident.specs.Gathering.{IsRowTaken}
use Rattle.cm_resident.proofs.gathering.take_row.Given as goal

abbrev pub invariant-loop-w : goal.invariant-loop-w
invariant-loop-w g l = record {
  room : l.fn.total ≤ vec_capacity l.things;
  taken : IsRowTaken l.total l.w l.initial.hands.items l.initial.things.items l.hands.items l.things.items;
}
