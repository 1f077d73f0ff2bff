use Rattle.std.proofs.Common.{◌≡◌, ◌-◌, false}
use Rattle.cm_weave_text.specs.Alone.{step_count}
use Rattle.cm_weave_text.specs.Hearing.{exchange_in, IsOfRun}
use Rattle.cm_weave_text.proofs.Playing.{IsPlaying}
use Rattle.cm_weave_text.proofs.alone.play_on.Given as goal

abbrev pub invariant-loop-step : goal.invariant-loop-step
invariant-loop-step g l = record {
  run : IsOfRun l.fn.world l.world;
  writing : g.O.Sink.has_failed l.out ≡ false;
  playing : IsPlaying (exchange_in g.S.Sizes.n g.S.Sizes.cap l.fn.world) l.fn.world.world l.world.world
      (g.O.Sink.contents l.fn.out) (g.O.Sink.contents l.out) l.text.items l.steps l.sent;
}

abbrev pub decreases-loop-step : goal.decreases-loop-step
decreases-loop-step g l = step_count (exchange_in g.S.Sizes.n g.S.Sizes.cap l.fn.world) - l.steps
