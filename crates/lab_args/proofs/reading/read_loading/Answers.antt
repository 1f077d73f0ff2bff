use Rattle.std.proofs.Common.{inr}
use Rattle.lab_args.proofs.Forms.{few_of_loading}
use Rattle.lab_args.proofs.reading.read_loading.Goals as goal

pub returns-in_default-clause-refused : goal.returns-in_default-clause-refused
returns-in_default-clause-refused c = inr (few_of_loading c.args.words.now c.in_default.len_below)
