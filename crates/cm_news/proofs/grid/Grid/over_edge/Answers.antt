use Rattle.std.proofs.Common.{◌||◌, ◌∙◌}
use Rattle.cm_model.proofs.Bits.{bit-bit_or}
use Rattle.cm_news.proofs.grid.Grid.over_edge.Goals as goal

pub returns : goal.returns
returns g c = record {
  value = λ p h. bit-bit_or c.inside.result c.entering.result p
      ∙ (λ j. c.inside.ensures.value p h j || c.entering.ensures.value p h j);
}
