use Rattle.std.proofs.Common.{sym, ap, ◌∙◌, arith}
use Rattle.cm_bits.specs.Bit.{bit}
use Rattle.std.specs.Bool.{beq}
use Rattle.cm_model.proofs.Bits.{bit-bit_not, beq-false}
use Rattle.cm_element.proofs.word.holding.Goals as goal

pub returns-else-sense : goal.returns-else-sense
returns-else-sense c = record {
  value = λ p h. bit-bit_not c.args.flag_plane p (omega arith) h
      ∙ sym (ap (beq (bit c.args.flag_plane p)) c.if-sense.false ∙ beq-false (bit c.args.flag_plane p));
}
