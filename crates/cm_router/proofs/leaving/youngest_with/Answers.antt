use Rattle.std.proofs.Common.{sym, ◌∙◌}
use Rattle.cm_router.proofs.Oldest.{youngest-found, youngest-behind}
use Rattle.cm_router.proofs.leaving.youngest_with.Goals as goal

pub returns-then-is_older_or_none-clause-value : goal.returns-then-is_older_or_none-clause-value
returns-then-is_older_or_none-clause-value c =
    youngest-found c.args.messages.now c.args.place c.index-messages-place.result c.args.behind c.requires.place c.index-messages-place.is
    c.requires.behind (sym c.is_older_or_none.ensures.value ∙ c.if-is_older_or_none.true)

pub returns-else-is_older_or_none-clause-value : goal.returns-else-is_older_or_none-clause-value
returns-else-is_older_or_none-clause-value c =
    youngest-behind c.args.messages.now c.args.place c.index-messages-place.result c.args.behind c.requires.place c.index-messages-place.is
    c.requires.behind (sym c.is_older_or_none.ensures.value ∙ c.if-is_older_or_none.false)
