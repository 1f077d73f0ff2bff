use Rattle.cm_news.proofs.Shifting.{spread}
use Rattle.cm_news.proofs.grid.to_first_column.Goals as goal

pub returns : goal.returns
returns c = record { value = λ p h. spread c.args.edge c.requires.within p h }
