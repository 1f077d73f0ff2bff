use Rattle.std.proofs.Common.{◌≡◌, ◌≤◌, ◌-◌, length, take}
use Rattle.cm_weave_text.specs.Hearing.{exchange_in, processed, IsOfRun}
use Rattle.cm_weave_text.proofs.hearing.hear.Given as goal

abbrev pub invariant-loop-done : goal.invariant-loop-done
invariant-loop-done g l = record {
  run : IsOfRun l.fn.world l.world;
  within : l.done ≤ length l.piece;
  heard : record { world = l.world.world; line = l.line.items; answers = l.answers.items }
      ≡ processed (exchange_in g.S.Sizes.n g.S.Sizes.cap l.fn.world)
      (record { world = l.fn.world.world; line = l.fn.line.items; answers = l.fn.answers.items })
      (take l.done l.piece);
}

abbrev pub decreases-loop-done : goal.decreases-loop-done
decreases-loop-done g l = length l.piece - l.done
