use Rattle.std.proofs.Common.{◌+◌, refl, sym, ap, ◌∙◌, arith}
use Rattle.cm_bits.specs.Bit.{bit, bit_number}
use Rattle.cm_model.specs.Each.{tabulate}
use Rattle.lab_study.proofs.Sums.{sum-tabulate-more}
use Rattle.lab_front.proofs.telling.ones.Goals as goal

pub loop-p-init : goal.loop-p-init
unfolding tabulate
loop-p-init c = record { so_far = refl; within = omega arith }

pub loop-p-preserved : goal.loop-p-preserved
loop-p-preserved c = record {
  so_far = (λ i. c.loop-p.invariant.so_far i + (c.bit_number-total.ensures.value ∙ ap bit_number c.bit.ensures.value) i)
      ∙ sym (sum-tabulate-more (λ k. bit_number (bit c.args.plane k)) c.loop-p.p);
  within = omega (arith, c.loop-p.invariant.within, c.bit_number-total.ensures.within);
}
