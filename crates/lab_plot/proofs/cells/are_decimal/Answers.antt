use Rattle.std.proofs.Common.{rules, tests}
use Rattle.std.proofs.lemmas.Iterator.{YieldsList-from_slice}
use Rattle.std.proofs.lemmas.Iterator.Search.{all_from_yields_List}
use Rattle.lab_plot.specs.Cells.{is_decimal}
use Rattle.lab_plot.proofs.cells.are_decimal.Goals as goal

pub returns : goal.returns
returns c = record {
  value = all_from_yields_List is_decimal _ _ _ c.all.ensures.ran (YieldsList-from_slice c.args.bytes.now cc)
      (λ x r q k. search (rules, tests));
}
