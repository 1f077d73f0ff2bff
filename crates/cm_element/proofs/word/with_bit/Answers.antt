use Rattle.std.proofs.Common.{◌∙◌, refl}
use Rattle.cm_element.proofs.Poking.{bit-put, bit-cleared}
use Rattle.cm_element.proofs.word.with_bit.Goals as goal

pub returns-then-value : goal.returns-then-value
returns-then-value c = record {
  value = λ p h. bit-put c.args.plane c.get.result p c.get.ensures.in_range
      ∙ rw (c.get.ensures.value, c.if-value.true) refl;
  in_range = rw (← c.get.ensures.value) c.get.ensures.in_range;
}

pub returns-else-value : goal.returns-else-value
returns-else-value c = record {
  value = λ p h. bit-cleared c.args.plane c.get.result p c.get.ensures.in_range h
      ∙ rw (c.get.ensures.value, c.if-value.false) refl;
  in_range = rw (← c.get.ensures.value) c.get.ensures.in_range;
}
