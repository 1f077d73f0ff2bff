use Rattle.cm_resident.proofs.Fitting.{just_cut}
use Rattle.cm_resident.proofs.worker_parts.partition.Goals as goal

pub returns-in-Ok : goal.returns-in-Ok
returns-in-Ok g c = record {
  value = λ acts counted. just_cut g.S.Sizes.n g.S.Sizes.cap c.args.k c.args.cycles c.args.machine.now.machine acts
      _ c.in-Ok.ensures.value c.in-Ok.ensures.fresh counted c.requires.clock;
}
