use Rattle.std.proofs.Common.{◌≡◌, ℕ, ◌+◌, ◌-◌, ◌*◌, ◌/◌, ◌%◌, ◌^◌, ◌<◌, ap, ◌∙◌, arith}
use Rattle.cm_model.specs.Processor.{Processor, field_value}
use Rattle.cm_model.specs.Chip.{processor_at}
use Rattle.cm_model.specs.Array.{chip_at}
use Rattle.cm_element.proofs.Fields.{field-sixteen_lower, field_below}
use Rattle.cm_element.proofs.run.Run.field.Goals as goal

pub overflow_mul-value : goal.overflow_mul-value
overflow_mul-value c =
    let processor : Processor = processor_at (chip_at c.args.self.now c.args.chip) c.args.proc in
    let below : c.loop-below_top.value < 2 ^ 48 =
    field_below processor _ _ 48 _ c.loop-below_top.invariant (omega arith) in
    record { fits = omega arith }

pub overflow_add-value : goal.overflow_add-value
overflow_add-value c =
    let processor : Processor = processor_at (chip_at c.args.self.now c.args.chip) c.args.proc in
    let below : c.loop-below_top.value < 2 ^ 48 =
    field_below processor _ _ 48 _ c.loop-below_top.invariant (omega arith) in
    let low : c.sixteen_bits.result < 2 ^ 16 =
    field_below processor _ 16 16 _ c.sixteen_bits.ensures.value (omega arith) in
    record { fits = omega arith }

pub loop-below_top-preserved : goal.loop-below_top-preserved
loop-below_top-preserved c =
    let processor : Processor = processor_at (chip_at c.args.self.now c.args.chip) c.args.proc in
    let at = c.from-at.result in
    let len = c.from-len.result in
    let n = c.loop-below_top.below_top in
    let lower : ℕ = at + (len / 16 - 1 - n) * 16 in
    let next : at + (len / 16 - n) * 16 ≡ lower + 16 = omega arith in
    let here : lower ≡ at + (len / 16 - (n + 1)) * 16 = omega arith in
    let more : 16 + (n * 16 + len % 16) ≡ (n + 1) * 16 + len % 16 = omega arith in
    field-sixteen_lower processor lower (n * 16 + len % 16) c.loop-below_top.value c.sixteen_bits.result
    (c.loop-below_top.invariant ∙ ap (λ (a : ℕ). field_value processor a (n * 16 + len % 16)) next)
    c.sixteen_bits.ensures.value
    ∙ ap (λ (a : ℕ). field_value processor a (16 + (n * 16 + len % 16))) here
    ∙ ap (field_value processor (at + (len / 16 - (n + 1)) * 16)) more
