use Rattle.std.proofs.Common.{◌≤◌, vec_capacity}
use Rattle.cm_gates.proofs.Hands.{AreLeft}
use Rattle.cm_gates.proofs.dealing.collect.Given as goal

abbrev pub invariant-loop-i : goal.invariant-loop-i
invariant-loop-i g l = record {
  left : AreLeft l.count l.fn.many l.i l.fn.hands.items l.hands.items l.things.items;
  room : l.fn.many ≤ vec_capacity l.things;
}
