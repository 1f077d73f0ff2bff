use Rattle.std.proofs.Common.{inr}
use Rattle.lab_args.proofs.Forms.{few_words}
use Rattle.lab_args.proofs.reading.read_command.Goals as goal

pub returns-in_default-clause-refused : goal.returns-in_default-clause-refused
returns-in_default-clause-refused c = inr (few_words c.args.words.now c.in_default.len_below)
