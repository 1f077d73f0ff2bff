use Rattle.std.proofs.Common.{subst, sym}
use Rattle.std.specs.Prelude.{slice_get}
use Rattle.cm_workers.specs.declared.turn.Crew.{Crew}
use Rattle.cm_workers.specs.Each.{AreEach}
use Rattle.cm_workers.specs.Turns.{round_before, HasGone}
use Rattle.cm_workers.proofs.shift.start.Goals as goal

pub spawn_with-started-requires-clause-keeps : goal.spawn_with-started-requires-clause-keeps
spawn_with-started-requires-clause-keeps g c κs outlives r gone =
    subst (λ (was : Crew). AreEach (HasGone c.args.run.acts.now (round_before c.args.run.rounds.now c.args.number)
    (slice_get c.args.run.rounds.now c.args.number))
    was.blocks.items was.posts.items r.blocks.items r.posts.items) (sym c.of-was.ensures) gone
