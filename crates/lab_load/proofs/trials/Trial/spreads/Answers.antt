use Rattle.std.proofs.Common.{List, subst}
use Rattle.lab_load.specs.declared.figures.Figures.{Figures}
use Rattle.lab_load.specs.Spreads.{AreSpreads}
use Rattle.lab_load.proofs.trials.Trial.spreads.Goals as goal

pub returns-in-Ok-clause-value : goal.returns-in-Ok-clause-value
returns-in-Ok-clause-value c = record {
  loads = c.in-Ok.loads.items;
  count = c.in-Ok.ensures.count;
  each = c.in-Ok.ensures.each;
  are = subst (λ (loads : List Figures). AreSpreads c.args.rate loads c.spreads_of.result) c.deref.ensures.value
      c.spreads_of.ensures.value;
}
