use Rattle.std.proofs.Common.{◌∙◌, inr, sym}
use Rattle.lab_args.proofs.HelpLemmas.{help_explains}
use Rattle.lab_args.proofs.reading.why_not.Goals as goal

pub returns-then-stands_in : goal.returns-then-stands_in
returns-then-stands_in c =
    inr (help_explains c.args.words.now c.in-len2-up.len_at_least (sym c.stands_in.ensures ∙ c.if-stands_in.true))
