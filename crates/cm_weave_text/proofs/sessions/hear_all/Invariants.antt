use Rattle.std.proofs.Common.{◌≡◌, ◌-◌, false, List, ℕ}
use Rattle.cm_weave_text.specs.Ends.{STEPS_LIMIT}
use Rattle.cm_weave_text.specs.Hearing.{exchange_in, IsOfRun}
use Rattle.cm_weave_text.proofs.Ending.{IsMidway}
use Rattle.cm_weave_text.proofs.sessions.hear_all.Given as goal

abbrev pub invariant-loop-count : goal.invariant-loop-count
invariant-loop-count g l = record {
  text : List ℕ;
  run : IsOfRun l.fn.world l.world;
  midway : IsMidway (exchange_in g.S.Sizes.n g.S.Sizes.cap l.fn.world) l.fn.world.world (g.O.Sink.contents l.fn.out)
      (g.I.Source.left l.fn.steps) text l.world.world l.line.items (g.O.Sink.contents l.out)
      (g.I.Source.left l.steps) l.sent l.taken;
  reading : g.I.Source.has_failed l.steps ≡ false;
  writing : g.O.Sink.has_failed l.out ≡ false;
}

abbrev pub decreases-loop-count : goal.decreases-loop-count
decreases-loop-count g l = STEPS_LIMIT - l.taken
