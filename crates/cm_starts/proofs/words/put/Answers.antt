use Rattle.std.proofs.Common.{rules, ap, ◌∙◌}
use Rattle.cm_starts.specs.Starting.{starter}
use Rattle.cm_starts.proofs.Starts.{tells}
use Rattle.cm_starts.proofs.words.put.Goals as goal

pub compare_exchange-requires : goal.compare_exchange-requires
compare_exchange-requires c =
    (search rules, search rules, tells _ _ c.args.word _ c.requires.new c.requires.word)

pub returns-clause-has_told : goal.returns-clause-has_told
returns-clause-has_told c = c.compare_exchange.ensures.2 ∙ ap (λ m. (starter c.args.word, m.1)) c.requires.new
