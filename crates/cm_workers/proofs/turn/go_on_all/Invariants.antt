use Rattle.std.specs.Option.{option_copied}
use Rattle.cm_workers.specs.Each.{AreEachBelow}
use Rattle.cm_workers.specs.Turns.{HasGoneOn}
use Rattle.cm_workers.proofs.turn.go_on_all.Given as goal

abbrev pub invariant-loop-i : goal.invariant-loop-i
invariant-loop-i l = AreEachBelow l.i (HasGoneOn l.turn.acts.now (option_copied l.turn.before))
    l.initial.blocks l.initial.posts l.blocks l.posts
