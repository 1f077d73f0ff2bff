use Rattle.cm_news.proofs.OneWay.{inside_and_edge_are_all}
use Rattle.cm_news.proofs.laws.inside_and_edge_are_all.Goals as goal

pub returns : goal.returns
returns c = inside_and_edge_are_all
