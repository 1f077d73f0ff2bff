use Rattle.cm_args.proofs.line.run_line.Goals as goal

pub returns-in_default-clause-none : goal.returns-in_default-clause-none
returns-in_default-clause-none c = λ e image program split workers out line.
    c.number_option.ensures.none c.in_default.is split line.cuts

pub returns-in_default-number_option-clause-none : goal.returns-in_default-number_option-clause-none
returns-in_default-number_option-clause-none c = λ e image program split workers out line.
    c.number_option-2.ensures.none c.in_default-number_option.is workers line.crew
