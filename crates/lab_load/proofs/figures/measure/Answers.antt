use Rattle.cm_router.specs.Routes.{routing_of}
use Rattle.lab_load.specs.Counted.{counts_for}
use Rattle.lab_load.specs.Loaded.{loaded_for}
use Rattle.lab_load.proofs.figures.measure.Goals as goal

pub returns : goal.returns
returns c = record {
  value = c.figures_of.ensures.value
      (loaded_for c.args.room c.args.load.now (routing_of c.args.routing.now) c.args.period.skip c.args.period.cycles)
      (counts_for c.args.period.counting c.args.room c.args.load.now (routing_of c.args.routing.now) c.args.period.skip
      c.args.period.cycles)
      c.in_ok-told.ensures.value;
}
