use Rattle.cm_news.proofs.Shifting.{gathered}
use Rattle.cm_news.proofs.grid.first_column.Goals as goal

pub returns-clause-value : goal.returns-clause-value
returns-clause-value c = λ i h. gathered c.args.plane i h
