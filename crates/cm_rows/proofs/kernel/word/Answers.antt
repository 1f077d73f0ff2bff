use Rattle.std.proofs.Common.{false, arith}
use Rattle.cm_rows.proofs.Joining.{one_word}
use Rattle.cm_rows.proofs.kernel.word.Goals as goal

pub returns-clause-memory : goal.returns-clause-memory
returns-clause-memory c =
    one_word c.args.tables.0 false c.args.always c.args.sense c.args.at c.args.at.a c.args.from
    c.choice_of-choice.result c.kept-word.result c.args.memory.now c.args.flags.now c.args.memory.now
    (omega (arith, c.requires.rows.a)) c.choice_of-choice.ensures.value c.kept-word.ensures.value

pub returns-clause-flags : goal.returns-clause-flags
returns-clause-flags c =
    one_word c.args.tables.1 c.args.chained c.args.always c.args.sense c.args.at c.args.at.write c.args.from
    c.choice_of-choice.result c.kept-flag.result c.args.memory.now c.args.flags.now c.args.flags.now
    (omega (arith, c.requires.write)) c.choice_of-choice.ensures.value c.kept-flag.ensures.value
