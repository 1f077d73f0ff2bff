use Rattle.std.proofs.Common.{rules, tests}
use Rattle.std.proofs.lemmas.Iterator.Search.{any_from_yields_List}
use Rattle.std.proofs.lemmas.Iterator.Splits.{YieldsList-from_slice_split}
use Rattle.cm_bits.specs.Text.{is_comma}
use Rattle.lab_route_plot.specs.Legs.{is_delivered_part}
use Rattle.lab_route_plot.proofs.legs.is_delivered.Goals as goal

pub returns : goal.returns
returns c = record {
  value = any_from_yields_List is_delivered_part _ _ _ c.any.ensures.ran
      (YieldsList-from_slice_split _ is_comma c.args.line.now c.split.ensures.rest c.split.ensures.done
      c.split.ensures.closure (λ x r q k. search (rules, tests)))
      (λ x r q k. search (rules, tests));
}
