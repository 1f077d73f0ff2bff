use Rattle.std.proofs.Common.{false}
use Rattle.cm_rows.proofs.Joining.{one_block}
use Rattle.cm_rows.proofs.kernel.block.Goals as goal

pub returns-clause-memory : goal.returns-clause-memory
returns-clause-memory g c =
    one_block g.row.L c.args.tables.0 false c.args.always c.args.sense c.args.at c.args.at.a c.args.from c.args.memory.now
    c.args.flags.now c.args.memory.now c.put.new.words
    c.load-a.result c.load-b.result c.load-f.result c.load-a.result c.load-condition.result c.choice_lanes-choice.result
    c.kept_lanes-word.result
    c.load-a.ensures.value c.load-b.ensures.value c.load-f.ensures.value c.load-a.ensures.value
    c.load-condition.ensures.value
    c.choice_lanes-choice.ensures.value c.kept_lanes-word.ensures.value c.put.ensures.value
    c.put.ensures.below c.put.ensures.above

pub returns-clause-flags : goal.returns-clause-flags
returns-clause-flags g c =
    one_block g.row.L c.args.tables.1 c.args.chained c.args.always c.args.sense c.args.at c.args.at.write c.args.from
    c.args.memory.now c.args.flags.now c.args.flags.now c.put-2.new.words
    c.load-a.result c.load-b.result c.load-f.result c.load-old.result c.load-condition.result
    c.choice_lanes-choice.result c.kept_lanes-flag.result
    c.load-a.ensures.value c.load-b.ensures.value c.load-f.ensures.value c.load-old.ensures.value
    c.load-condition.ensures.value
    c.choice_lanes-choice.ensures.value c.kept_lanes-flag.ensures.value c.put-2.ensures.value
    c.put-2.ensures.below c.put-2.ensures.above
