use Rattle.std.proofs.Common.{refl, sym, ◌∙◌, arith}
use Rattle.cm_model.specs.Each.{tabulate}
use Rattle.lab_study.specs.Adding.{added}
use Rattle.lab_study.specs.Counts.{counts_to}
use Rattle.lab_study.proofs.Sums.{counts_to-more, added-within}
use Rattle.lab_study.proofs.counting.counts.Goals as goal

pub loop-chip-init : goal.loop-chip-init
unfolding counts_to tabulate
loop-chip-init c = record {
  so_far = refl;
  within = record {
    taken = omega arith;
    delivered = omega arith;
    referred = omega arith;
    standing = omega arith;
    full = omega arith;
    asking = omega arith;
  };
}

pub loop-chip-preserved : goal.loop-chip-preserved
loop-chip-preserved c = record {
  so_far = c.plus-counts.ensures.value
      ∙ (λ j. added (c.loop-chip.invariant.so_far j) (c.counts_at.ensures.value j))
      ∙ sym (counts_to-more c.loop-chip.chip c.args.machine.now.cap c.args.before.now c.args.ways.now c.args.machine.now.machine);
  within = added-within c.loop-chip.chip c.loop-chip.counts c.counts_at.result c.plus-counts.result
      c.loop-chip.invariant.within c.counts_at.ensures.within c.plus-counts.ensures.value;
}
