use Rattle.std.proofs.Common.{◌∙◌}
use Rattle.lab_args.proofs.TwiceLemmas.{among_texts}
use Rattle.lab_args.proofs.reading.stands_in.Goals as goal

pub returns : goal.returns
returns c = c.contains.ensures.value ∙ among_texts c.args.word.now c.args.words.now
