use Rattle.std.proofs.Common.{◌≡◌, ◌+◌, sum, refl, sym, ap, ◌∙◌, arith}
use Rattle.cm_bits.specs.Bit.{bit, bit_number}
use Rattle.cm_model.specs.Each.{tabulate}
use Rattle.cm_model.specs.Processor.{SEND, flag}
use Rattle.cm_model.specs.Chip.{processor_at}
use Rattle.cm_model.proofs.Each.{same_each_below}
use Rattle.lab_study.specs.Counts.{asking_at}
use Rattle.lab_study.proofs.Sums.{sum-tabulate-more}
use Rattle.lab_front.proofs.telling.asking.Goals as goal

pub loop-chip-init : goal.loop-chip-init
unfolding tabulate
loop-chip-init g c = record { so_far = refl; within = omega arith }

pub loop-chip-preserved : goal.loop-chip-preserved
loop-chip-preserved g c =
    let here = c.chip.result in
    let bits : tabulate 0 16 (λ p. bit_number (bit c.flag_plane.result p))
    ≡ tabulate 0 16 (λ p. bit_number (flag (processor_at here p) SEND)) =
    same_each_below 0 16 _ _ (λ p h. ap bit_number (c.flag_plane.ensures.value p h)) in
    let one : c.ones-total.result ≡ asking_at c.args.machine.now.machine c.loop-chip.chip =
    c.ones-total.ensures.value ∙ ap sum bits
    ∙ (λ i. sum (tabulate 0 16 (λ p. bit_number (flag (processor_at (c.chip.ensures.value i) p) SEND)))) in
    record {
      so_far = (λ i. c.loop-chip.invariant.so_far i + one i)
          ∙ sym (sum-tabulate-more (asking_at c.args.machine.now.machine) c.loop-chip.chip);
      within = omega (arith, c.loop-chip.invariant.within, c.ones-total.ensures.within);
    }
