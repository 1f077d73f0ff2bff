use Rattle.std.proofs.Common.{ℕ, List, [], length, get_or, ap, ◌∙◌, arith}
use Rattle.std.proofs.lemmas.List.{with_items_is}
use Rattle.cm_model.specs.declared.act.Nano.{Nano}
use Rattle.cm_model.specs.Each.{tabulate}
use Rattle.cm_model.specs.Chip.{chip_after}
use Rattle.cm_element.specs.Runs.{chips_of}
use Rattle.cm_element.specs.Steps.{along_chain}
use Rattle.cm_element.proofs.Columns.{length-chips_of}
use Rattle.cm_element.proofs.Stepping.{whatever_comes_in}
use Rattle.cm_element.proofs.run.Run.step.Goals as goal

pub returns-clause-value : goal.returns-clause-value
returns-clause-value c =
    let run = c.self.inside in
    let nano : Nano = c.args.nano.now in
    let memory : List ℕ = c.step_rows.new.memory in
    let flags : List ℕ = c.step_rows.new.flags in
    let lent_flags = c.deref_mut.ensures in
    let kept = c.step_rows.ensures.rows in
    let flags_is = with_items_is run.flags flags
    (omega (arith, kept.flag_words, c.self.invariant.flag_words, ap length lent_flags.value, lent_flags.len)) in
    rw (← c.self.view_is, length-chips_of run.memory run.flags.items run.stride run.chips)
    ((λ j. chips_of memory (flags_is j) run.stride run.chips)
    ∙ c.step_rows.ensures.value
    ∙ (λ j. tabulate 0 run.chips (λ i. chip_after nano
    (along_chain nano (get_or (chips_of run.memory (lent_flags.value j) run.stride run.chips) i []))
    (get_or (chips_of run.memory (lent_flags.value j) run.stride run.chips) i []))))

pub returns-clause-alone : goal.returns-clause-alone
returns-clause-alone c = λ alone incoming.
    returns-clause-value c ∙ whatever_comes_in c.args.nano.now c.args.self.now incoming alone
