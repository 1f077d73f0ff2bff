use Rattle.std.proofs.Common.{◌≡◌, ℕ, ◌+◌, refl, sym, ap, ◌∙◌, arith}
use Rattle.cm_bits.specs.Bit.{bit_number}
use Rattle.cm_model.specs.Each.{tabulate}
use Rattle.cm_model.specs.Processor.{SEND, flag}
use Rattle.cm_model.specs.Chip.{processor_at}
use Rattle.lab_study.proofs.Sums.{sum-tabulate-more}
use Rattle.lab_study.proofs.counting.asking.Goals as goal

pub loop-p-init : goal.loop-p-init
unfolding tabulate
loop-p-init c = record { so_far = refl; within = omega arith }

pub loop-p-preserved : goal.loop-p-preserved
loop-p-preserved c =
    let read = λ (k : ℕ). bit_number (flag (processor_at c.args.chip.now k) SEND) in
    let proc : c.unwrap-proc.result ≡ c.loop-p.p = rw c.unwrap-proc.ensures at c.new.ensures.value in
    let one : c.bit_number-total.result ≡ read c.loop-p.p =
    c.bit_number-total.ensures.value ∙ ap bit_number c.flag.ensures.value ∙ ap read proc in
    record {
      so_far = (λ i. c.loop-p.invariant.so_far i + one i) ∙ sym (sum-tabulate-more read c.loop-p.p);
      within = omega (arith, c.loop-p.invariant.within, c.bit_number-total.ensures.within);
    }
