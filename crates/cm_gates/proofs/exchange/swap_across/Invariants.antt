use Rattle.cm_gates.proofs.Across.{AreCrossed}
use Rattle.cm_gates.proofs.exchange.swap_across.Given as goal

abbrev pub invariant-loop-b : goal.invariant-loop-b
invariant-loop-b g l = AreCrossed l.bit l.b l.initial.things l.things
