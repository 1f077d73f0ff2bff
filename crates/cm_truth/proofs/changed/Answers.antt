use Rattle.std.proofs.Common.{bit_and, ap, ◌∙◌}
use Rattle.cm_bits.specs.Bit.{bit, differ}
use Rattle.cm_model.proofs.Bits.{bit-bit_and, bit-bit_xor}
use Rattle.cm_truth.proofs.changed.Goals as goal

pub returns : goal.returns
returns c = record {
  value = λ p. bit-bit_xor c.args.word (bit_and c.args.choice c.args.difference) p
      ∙ ap (differ (bit c.args.word p)) (bit-bit_and c.args.choice c.args.difference p);
}
