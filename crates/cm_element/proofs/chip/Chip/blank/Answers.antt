use Rattle.std.proofs.Common.{[], length, ap, ◌∙◌, lit<}
use Rattle.cm_model.specs.Chip.{blank_chip}
use Rattle.cm_model.specs.Array.{chip_at}
use Rattle.cm_model.proofs.Each.{length-tabulate, get_or-each_below}
use Rattle.cm_element.proofs.chip.Chip.blank.Goals as goal

pub invariant_of-result : goal.invariant_of-result
invariant_of-result c = ap length c.in_ok-run.ensures.value ∙ length-tabulate 0 1 (λ k. blank_chip)

pub returns : goal.returns
returns c = record {
  value = ap (λ run. chip_at run 0) c.in_ok-run.ensures.value ∙ get_or-each_below 1 (λ k. blank_chip) 0 [] (lit< tt);
}
