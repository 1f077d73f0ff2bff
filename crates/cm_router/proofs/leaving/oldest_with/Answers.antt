use Rattle.std.proofs.Common.{sym, ◌∙◌}
use Rattle.cm_router.proofs.Oldest.{oldest-found, oldest-behind}
use Rattle.cm_router.proofs.leaving.oldest_with.Goals as goal

pub returns-then-goes_first-clause-value : goal.returns-then-goes_first-clause-value
returns-then-goes_first-clause-value c =
    oldest-found c.args.dim c.args.messages.now c.args.place c.index-messages-place.result c.args.behind
    c.requires.place c.index-messages-place.is c.requires.behind (sym c.goes_first.ensures.value ∙ c.if-goes_first.true)

pub returns-else-goes_first-clause-value : goal.returns-else-goes_first-clause-value
returns-else-goes_first-clause-value c =
    oldest-behind c.args.dim c.args.messages.now c.args.place c.index-messages-place.result c.args.behind
    c.requires.place c.index-messages-place.is c.requires.behind (sym c.goes_first.ensures.value ∙ c.if-goes_first.false)
