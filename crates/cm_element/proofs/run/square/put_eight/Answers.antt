use Rattle.std.proofs.Common.{◌+◌, ◌-◌, arith}
use Rattle.cm_element.proofs.Squares.{eight_put}
use Rattle.cm_element.proofs.run.square.put_eight.Goals as goal

pub returns : goal.returns
returns c = record {
  value = eight_put c.args.at c.args.source (c.args.at + 8 - c.args.at) (c.args.source + 8 - c.args.source)
      c.args.list.now c.args.from.now (omega arith) (omega arith) c.requires.within c.requires.from;
}
