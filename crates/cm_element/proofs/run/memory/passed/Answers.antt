use Rattle.std.proofs.Common.{◌+◌, sym, ◌∙◌, arith}
use Rattle.cm_element.proofs.Flagged.{none_in_part}
use Rattle.cm_element.proofs.run.memory.passed.Goals as goal

pub returns-clause-none : goal.returns-clause-none
returns-clause-none c = λ i h. none_in_part c.args.slots.now c.args.at (c.args.at + 64) i (omega arith)
    (omega (arith, c.requires.slots, c.requires.at, c.if-at-ne0.false)) (sym c.has_ones.ensures.value ∙ c.if-has_ones.false)

pub returns-clause-none_there : goal.returns-clause-none_there
returns-clause-none_there c = λ i h. none_in_part c.args.others.now c.args.at (c.args.at + 64) i (omega arith)
    (omega (arith, c.requires.others, c.requires.at, c.if-at-ne0.false))
    (sym c.has_ones-else-has_ones.ensures.value ∙ c.if-has_ones-2.false)
