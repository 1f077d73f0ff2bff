use Rattle.std.proofs.Common.{◌≡◌, length}
use Rattle.cm_gates.specs.Dealing.{AreDealt}
use Rattle.cm_gates.proofs.dealing.deal.Given as goal

abbrev pub invariant-loop-thing : goal.invariant-loop-thing
invariant-loop-thing g l = record {
  dealt : AreDealt l.fn.count l.yielded l.hands.items;
  number : l.j ≡ length l.yielded;
}
