use Rattle.std.proofs.Common.{◌+◌, length, refl, sym, ap, ◌∙◌, arith}
use Rattle.cm_model.specs.Each.{tabulate}
use Rattle.lab_study.specs.Counts.{standing_count_at}
use Rattle.lab_study.proofs.Sums.{sum-tabulate-more}
use Rattle.lab_front.proofs.telling.standing.Goals as goal

pub loop-chip-init : goal.loop-chip-init
unfolding tabulate
loop-chip-init g c = record { so_far = refl; within = omega arith }

pub loop-chip-preserved : goal.loop-chip-preserved
loop-chip-preserved g c = record {
  so_far = (λ i. c.loop-chip.invariant.so_far i + ap length c.buffer.ensures.value i)
      ∙ sym (sum-tabulate-more (standing_count_at c.args.machine.now.machine) c.loop-chip.chip);
  within = omega (arith, c.loop-chip.invariant.within);
}
