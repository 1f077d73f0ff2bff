use Rattle.std.proofs.Common.{◌++◌, ap, ◌∙◌, List, ℕ}
use Rattle.cm_tools.specs.ChipText.{flag_line}
use Rattle.cm_tools.proofs.Telling.{lines_below-zero, lines_below-more}
use Rattle.cm_tools.proofs.texts.push_flags.Goals as goal

pub loop-index-init : goal.loop-index-init
loop-index-init c = lines_below-zero c.args.text.now.items (flag_line c.args.chip.now)

pub loop-index-preserved : goal.loop-index-preserved
loop-index-preserved c =
    c.in_ok-push_flag_line.ensures.ok
    ∙ ap (λ (xs : List ℕ). xs ++ flag_line c.args.chip.now c.loop-index.index) c.loop-index.invariant
    ∙ lines_below-more c.args.text.now.items c.loop-index.index (flag_line c.args.chip.now)
