use Rattle.std.specs.Option.{option_copied}
use Rattle.cm_workers.specs.Each.{AreEachBelow}
use Rattle.cm_workers.specs.Turns.{HasSentDue}
use Rattle.cm_workers.proofs.turn.send_all.Given as goal

abbrev pub invariant-loop-i : goal.invariant-loop-i
invariant-loop-i l = AreEachBelow l.i (HasSentDue (option_copied l.next)) l.initial.blocks l.initial.posts l.blocks l.posts
