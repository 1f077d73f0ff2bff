use Rattle.cm_weave.specs.First.{AreBeginning}
use Rattle.cm_weave.proofs.first.first_blocks.Given as goal

abbrev pub invariant-loop-b : goal.invariant-loop-b
invariant-loop-b g l = AreBeginning g.S.Sizes.n g.S.Sizes.cap l.k l.machine.machine l.acts l.b l.blocks.items
