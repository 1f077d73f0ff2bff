use Rattle.std.proofs.Common.{length, ap, ◌∙◌, arith}
use Rattle.cm_model.specs.Chip.{blank_chip}
use Rattle.cm_model.proofs.Each.{length-tabulate}
use Rattle.cm_element.proofs.Nearing.{come}
use Rattle.cm_element.proofs.near.NearRun.of.Goals as goal

pub lay-requires-clause-here : goal.lay-requires-clause-here
lay-requires-clause-here c =
    omega (arith, ap length c.in_ok-near.ensures.value, length-tabulate 0 c.min-width.result (λ k. blank_chip))

pub invariant_of-result : goal.invariant_of-result
invariant_of-result c = record {
  far_count = c.requires.chips;
  near_count = c.lay.ensures.value.chips
      ∙ (ap length c.in_ok-near.ensures.value ∙ length-tabulate 0 c.min-width.result (λ k. blank_chip));
  within = omega (arith, c.min-width.ensures);
  some = λ h. omega (arith, h, c.min-width.ensures);
}

pub returns : goal.returns
returns c = record {
  value = come c.args.far c.in_ok-near.near c.lay.new.self 0 c.min-width.result c.args.chips (invariant_of-result c)
      c.lay.ensures.value;
}
