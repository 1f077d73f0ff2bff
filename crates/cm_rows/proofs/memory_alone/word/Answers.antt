use Rattle.std.proofs.Common.{false, arith}
use Rattle.cm_rows.proofs.Joining.{one_word}
use Rattle.cm_rows.proofs.memory_alone.word.Goals as goal

pub returns : goal.returns
returns c = record {
  memory = one_word c.args.table false c.args.always c.args.sense c.args.at c.args.at.a c.args.from
      c.choice_of-choice.result c.kept.result c.args.memory.now c.args.flags.now c.args.memory.now
      (omega (arith, c.requires.rows.a)) c.choice_of-choice.ensures.value c.kept.ensures.value;
}
