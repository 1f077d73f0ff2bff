use Rattle.std.proofs.Common.{inr}
use Rattle.lab_args.proofs.Forms.{few_of_freshening}
use Rattle.lab_args.proofs.reading.read_freshening.Goals as goal

pub returns-in_default-clause-refused : goal.returns-in_default-clause-refused
returns-in_default-clause-refused c = inr (few_of_freshening c.args.words.now c.in_default.len_below)
