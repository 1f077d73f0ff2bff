use Rattle.cm_nodes.proofs.Dimensions.{nothing_exchanged}
use Rattle.cm_nodes.proofs.nodes.exchange.Goals as goal

pub returns-then-cut-clause-here : goal.returns-then-cut-clause-here
returns-then-cut-clause-here c = nothing_exchanged c.args.rule c.args.dim _ _ c.if-cut.true

pub returns-then-cut-clause-there : goal.returns-then-cut-clause-there
returns-then-cut-clause-there c = nothing_exchanged c.args.rule c.args.dim _ _ c.if-cut.true
