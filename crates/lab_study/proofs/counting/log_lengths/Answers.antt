use Rattle.std.proofs.Common.{ℕ, ◌++◌, ◌∷◌, [], length, sym, ap, ◌∙◌}
use Rattle.cm_model.specs.Each.{tabulate}
use Rattle.cm_model.specs.Array.{nth_or_nil}
use Rattle.lab_machine.proofs.Tabulating.{tabulate-more}
use Rattle.lab_study.proofs.counting.log_lengths.Goals as goal

pub loop-chip-init : goal.loop-chip-init
unfolding tabulate
loop-chip-init c = c.in_ok-lengths.ensures.items

pub loop-chip-preserved : goal.loop-chip-preserved
loop-chip-preserved c =
    let count = λ (k : ℕ). length (nth_or_nil c.args.machine.now.machine.logs k) in
    c.in-Ok.ensures.items
    ∙ (λ j. c.loop-chip.invariant j ++ ap length c.log.ensures.value j ∷ [])
    ∙ sym (tabulate-more count c.loop-chip.chip)
