use Rattle.std.proofs.Common.{ℕ, true, List, replicate, ap, ◌∙◌}
use Rattle.cm_router.specs.Routes.{routing_of}
use Rattle.lab_counts.specs.declared.crossings.Crossings.{Crossings}
use Rattle.lab_counts.specs.Crossings.{no_crossings}
use Rattle.lab_load.specs.Counted.{chips_from}
use Rattle.lab_load.proofs.figures.measure_chips.Goals as goal

pub returns : goal.returns
returns c = record {
  value = c.in_ok-told.ensures.chips
      ∙ ap (λ (chips : List Crossings). chips_from chips true c.args.room c.args.load.now (routing_of c.args.routing.now)
      c.args.period.skip c.args.period.cycles)
      (c.in_ok-blank.ensures.value ∙ ap (λ (k : ℕ). replicate k no_crossings) c.chip_count.ensures.value);
}
