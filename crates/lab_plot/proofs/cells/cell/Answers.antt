use Rattle.std.proofs.Common.{rules, tests, ap, ◌∙◌}
use Rattle.std.proofs.lemmas.Iterator.Consumers.{nth_from_yields_List}
use Rattle.std.proofs.lemmas.Iterator.Splits.{YieldsList-from_slice_split}
use Rattle.cm_bits.specs.Text.{is_comma}
use Rattle.lab_plot.specs.Cells.{trimmed_or_none}
use Rattle.lab_plot.proofs.cells.cell.Goals as goal

pub returns-in-Some : goal.returns-in-Some
returns-in-Some c =
    let there = nth_from_yields_List _ _ c.args.column c.nth.ensures.ran
    (YieldsList-from_slice_split _ is_comma c.args.line.now c.split.ensures.rest c.split.ensures.done
    c.split.ensures.closure (λ x r q k. search (rules, tests))) in
    record { value = c.trim.ensures.value ∙ ap trimmed_or_none (rw c.in-Some.is at there) }

pub returns-in-None : goal.returns-in-None
returns-in-None c =
    let there = nth_from_yields_List _ _ c.args.column c.nth.ensures.ran
    (YieldsList-from_slice_split _ is_comma c.args.line.now c.split.ensures.rest c.split.ensures.done
    c.split.ensures.closure (λ x r q k. search (rules, tests))) in
    record { value = ap trimmed_or_none (rw c.in-None.is at there) }
