use Rattle.cm_bits.specs.Bit.{bit}
use Rattle.cm_model.proofs.Bits.{bit-bit_and, bit-bit_xor, differ_chosen}
use Rattle.cm_rows.proofs.tile.chosen.Goals as goal

pub returns : goal.returns
returns c = record {
  value = λ p. rw (bit-bit_xor, bit-bit_and, bit-bit_xor)
      (differ_chosen (bit c.args.choice p) (bit c.args.clear p) (bit c.args.set p));
}
