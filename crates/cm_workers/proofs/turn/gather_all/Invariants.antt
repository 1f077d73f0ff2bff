use Rattle.std.proofs.Common.{IsTrue}
use Rattle.cm_workers.specs.Each.{AreEachBelow}
use Rattle.cm_gates.specs.Blocks.{IsShown}
use Rattle.cm_workers.proofs.turn.gather_all.Given as goal

abbrev pub invariant-loop-i : goal.invariant-loop-i
invariant-loop-i l = AreEachBelow l.i (λ old same new now. IsShown old new × IsTrue new.kept.gathered)
    l.initial.blocks l.initial.blocks l.blocks l.blocks
