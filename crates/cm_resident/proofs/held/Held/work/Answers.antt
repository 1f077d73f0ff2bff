use Rattle.std.proofs.Common.{subst}
use Rattle.cm_turns.specs.declared.worker.Worker.{Worker}
use Rattle.cm_turns.specs.Workers.{HasWorked}
use Rattle.cm_resident.proofs.held.Held.work.Goals as goal

pub returns : goal.returns
returns g c = record {
  value = subst (λ (x : Worker). HasWorked x c.work.result.items) c.release-worker.ensures.value c.work.ensures.value;
}
