use Rattle.std.proofs.Common.{◌+◌, ◌-◌, arith}
use Rattle.cm_rows.proofs.Lanes.{get_or-put}
use Rattle.cm_rows.proofs.block.put.Goals as goal

pub returns-clause-value : goal.returns-clause-value
returns-clause-value g c = λ k h. get_or-put c.args.words.now c.args.lanes c.args.at (c.args.at + g.row.L - c.args.at)
    g.row.L k
    (omega arith) c.requires.lanes c.requires.within h
