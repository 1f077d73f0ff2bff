use Rattle.std.proofs.Common.{subst, sym}
use Rattle.std.specs.Prelude.{IfSome}
use Rattle.cm_turns.specs.declared.worker.Worker.{Worker}
use Rattle.cm_turns.specs.Workers.{HasWorked}
use Rattle.cm_resident.proofs.running.start.Goals as goal

pub spawn_with-started-requires-clause-keeps : goal.spawn_with-started-requires-clause-keeps
spawn_with-started-requires-clause-keeps g c κs outlives r left =
    subst (λ (was : Worker). IfSome r (λ blocks. HasWorked was blocks.items)) (sym c.of-was.ensures) left
