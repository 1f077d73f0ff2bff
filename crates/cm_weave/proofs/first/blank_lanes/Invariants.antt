use Rattle.std.proofs.Common.{◌≡◌, ◌≤◌, vec_capacity, vec_len}
use Rattle.cm_weave.specs.First.{AreUnused}
use Rattle.cm_weave.proofs.first.blank_lanes.Given as goal

abbrev pub invariant-loop-i : goal.invariant-loop-i
invariant-loop-i l = record {
  lanes : AreUnused l.dims l.k l.i l.lanes.items;
  len : vec_len l.lanes ≡ l.i;
  room : l.count ≤ vec_capacity l.lanes;
}
