use Rattle.cm_args.proofs.line.weave_line.Goals as goal

pub returns-in_default-clause-none : goal.returns-in_default-clause-none
returns-in_default-clause-none c = λ e image program steps split out line.
    c.number_option.ensures.none c.in_default.is split line.cuts
