use Rattle.std.proofs.Common.{◌≡◌, ◌+◌, ◌-◌, [], get_or, refl, ap, ◌∙◌, lit<, arith}
use Rattle.cm_bits.specs.Bit.{bit_number}
use Rattle.cm_model.specs.Processor.{Processor, field_value, memory_bit}
use Rattle.cm_model.specs.Chip.{processor_at}
use Rattle.cm_element.proofs.Fields.{field-one_lower, one_more_bit, bit_number-lt, bool_byte-is}
use Rattle.cm_element.proofs.run.Run.few_bits.Goals as goal

pub loop-below_top-init : goal.loop-below_top-init
unfolding field_value
loop-below_top-init c = record { value = refl; below = lit< tt }

pub loop-below_top-preserved : goal.loop-below_top-preserved
loop-below_top-preserved c =
    let at = c.args.at in
    let len = c.args.len in
    let n = c.loop-below_top.below_top in
    let p = c.args.proc in
    let processor : Processor = processor_at (get_or c.args.self.now c.args.chip []) p in
    let lowest : at + (len - 1 - n) ≡ at + (len - (n + 1)) = omega arith in
    let number_is : c.from.result ≡ bit_number (memory_bit processor (at + (len - (n + 1)))) =
    c.from.ensures ∙ bool_byte-is c.is_one.result ∙ ap bit_number (c.is_one.ensures.value
    ∙ c.memory_word-plane.ensures.value p c.is_one.ensures.in_range ∙ ap (memory_bit processor) lowest) in
    let whole = (c.memory_word-plane.ensures.whole.each p c.is_one.ensures.in_range).memory in
    record {
      value = field-one_lower processor at len n c.loop-below_top.value c.from.result c.loop-below_top-test.true
          (omega arith) c.loop-below_top.invariant.value number_is;
      below = one_more_bit c.loop-below_top.value c.from.result n c.loop-below_top.invariant.below
          (rw number_is (bit_number-lt (memory_bit processor (at + (len - (n + 1))))));
    }
