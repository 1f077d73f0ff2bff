use Rattle.std.proofs.Common.{◌≡◌, ℕ, ◌+◌, ◌^◌, length, refl, sum, sym, ap, ◌∙◌, arith}
use Rattle.cm_model.specs.Each.{tabulate}
use Rattle.cm_model.specs.Array.{nth_or_nil}
use Rattle.lab_study.specs.Holdings.{event_count}
use Rattle.lab_study.proofs.Sums.{sum-tabulate-more}
use Rattle.lab_study.proofs.holdings.event_count.Goals as goal

pub loop-chip-init : goal.loop-chip-init
unfolding tabulate
loop-chip-init c = record { so_far = refl; within = omega arith }

pub loop-chip-preserved : goal.loop-chip-preserved
loop-chip-preserved c =
    let count = λ (k : ℕ). length (nth_or_nil c.args.machine.now.machine.logs k) in
    record {
      so_far = (λ j. c.loop-chip.invariant.so_far j + length (c.log.ensures.value j))
          ∙ sym (sum-tabulate-more count c.loop-chip.chip);
      within = omega (arith, c.loop-chip.invariant.within);
    }

pub returns : goal.returns
unfolding event_count
returns c =
    let all : c.loop-chip.chip ≡ 2 ^ c.args.machine.now.n =
    omega (arith, c.loop-chip-test.false, c.loop-chip.auto.chip-end, c.chips-chip-end.ensures.value) in
    let count = λ (k : ℕ). length (nth_or_nil c.args.machine.now.machine.logs k) in
    record { value = c.loop-chip.invariant.so_far ∙ ap (λ (k : ℕ). sum (tabulate 0 k count)) all }
