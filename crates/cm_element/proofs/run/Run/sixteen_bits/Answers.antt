use Rattle.std.proofs.Common.{◌≢◌, ◌<◌, ◌∙◌, length, refl, arith, below_more}
use Rattle.std.proofs.Common.{get_or-set_same, get_or-set_other, length-set}
use Rattle.cm_model.specs.Chip.{processor_at}
use Rattle.cm_model.specs.Array.{chip_at}
use Rattle.cm_element.proofs.Fields.{sixteen_planes}
use Rattle.cm_element.proofs.run.Run.sixteen_bits.Goals as goal

pub loop-i-init : goal.loop-i-init
loop-i-init c = record { count = refl; each = λ k h. absurd (omega (arith, h)) }

pub loop-i-preserved : goal.loop-i-preserved
loop-i-preserved c =
    let k = c.loop-i.i in
    let now = c.loop-i.invariant in
    record {
      count = length-set c.loop-i.planes k c.memory_word.result ∙ now.count;
      each = below_more _ _ (λ j h. let ne : j ≢ k = omega arith in rw get_or-set_other (now.each j h))
          (let lt : k < length c.loop-i.planes = omega (arith, now.count) in
          λ p h. rw get_or-set_same (c.memory_word.ensures.value p h));
    }

pub returns : goal.returns
returns c =
    let p = c.args.proc in
    let now = c.loop-i.invariant in
    record {
      value = c.bits_in.ensures.value
          ∙ sixteen_planes (processor_at (chip_at c.args.self.now c.args.chip) p) c.loop-i.planes p c.args.at now.count
          (λ k h. now.each k (omega arith) p c.bits_in.ensures.in_range);
    }
