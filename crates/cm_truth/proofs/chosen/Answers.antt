use Rattle.cm_bits.specs.Bit.{bit}
use Rattle.cm_model.proofs.Bits.{bit-bit_xor}
use Rattle.cm_truth.proofs.Choosing.{four_chosen}
use Rattle.cm_truth.proofs.chosen.Goals as goal

pub returns : goal.returns
returns c = record {
  value = λ p. rw (c.changed.ensures.value p, c.changed-without.ensures.value p, c.changed-difference.ensures.value p)
      (simp bit-bit_xor (four_chosen (bit c.args.b p) (bit c.args.f p) (bit c.args.four.neither p)
      (bit c.args.four.by_f p) (bit c.args.four.by_b p) (bit c.args.four.by_both p)));
}
