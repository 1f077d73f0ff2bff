use Rattle.std.proofs.Common.{◌+◌, ◌-◌, arith}
use Rattle.cm_rows.proofs.Lanes.{length-load, get_or-load}
use Rattle.cm_rows.proofs.block.load.Goals as goal

pub returns-clause-count : goal.returns-clause-count
returns-clause-count g c = length-load c.args.words.now c.args.at (c.args.at + g.row.L - c.args.at) g.row.L
    (omega arith) c.requires.within

pub returns-clause-value : goal.returns-clause-value
returns-clause-value g c = λ k h. get_or-load c.args.words.now c.args.at (c.args.at + g.row.L - c.args.at) g.row.L k
    (omega arith) h
