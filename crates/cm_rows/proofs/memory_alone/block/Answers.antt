use Rattle.std.proofs.Common.{false}
use Rattle.cm_rows.proofs.Joining.{one_block}
use Rattle.cm_rows.proofs.memory_alone.block.Goals as goal

pub returns : goal.returns
returns g c = record {
  memory = one_block g.row.L c.args.table false c.args.always c.args.sense c.args.at c.args.at.a c.args.from c.args.memory.now
      c.args.flags.now c.args.memory.now c.put.new.words
      c.load-a.result c.load-b.result c.load-f.result c.load-a.result c.load-condition.result
      c.choice_lanes-choice.result c.kept_lanes-word.result
      c.load-a.ensures.value c.load-b.ensures.value c.load-f.ensures.value c.load-a.ensures.value
      c.load-condition.ensures.value
      c.choice_lanes-choice.ensures.value c.kept_lanes-word.ensures.value c.put.ensures.value
      c.put.ensures.below c.put.ensures.above;
}
