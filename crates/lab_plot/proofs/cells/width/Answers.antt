use Rattle.std.proofs.Common.{rules, tests}
use Rattle.std.proofs.lemmas.Iterator.Consumers.{count_from_yields_List}
use Rattle.std.proofs.lemmas.Iterator.Splits.{YieldsList-from_slice_split}
use Rattle.cm_bits.specs.Text.{is_comma}
use Rattle.lab_plot.proofs.cells.width.Goals as goal

pub returns : goal.returns
returns c = record {
  value = count_from_yields_List _ _ c.count.ensures.ran
      (YieldsList-from_slice_split _ is_comma c.args.line.now c.split.ensures.rest c.split.ensures.done
      c.split.ensures.closure (λ x r q k. search (rules, tests)));
}
