use Rattle.std.proofs.Common.{ℕ, ◌==◌, ◌&&◌, ap, ◌∙◌}
use Rattle.cm_bits.specs.Bit.{bit}
use Rattle.cm_element.proofs.Lanes.{bit-lane}
use Rattle.cm_element.proofs.word.planes_of_bits.Goals as goal

pub returns : goal.returns
returns c = record {
  value = λ i below p h.
      bit-lane c.args.bits c.get.result i p below c.get.ensures.in_range
      ∙ ap (λ (n : ℕ). (p == n) && bit c.args.bits i) c.get.ensures.value;
}
