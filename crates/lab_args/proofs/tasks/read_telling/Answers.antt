use Rattle.std.proofs.Common.{inl, inr, rules}
use Rattle.lab_args.proofs.Forms.{few_or_many_of_telling}
use Rattle.lab_args.proofs.tasks.read_telling.Goals as goal
use Rattle.lab_args.proofs.tasks.read_telling.Goals.{in_default-via-then-words-lt3}
use Rattle.lab_args.proofs.tasks.read_telling.Goals.{in_default-via-else-words-lt3+else-words-lt4}

pub returns-in_default-clause-refused : goal.returns-in_default-clause-refused
returns-in_default-clause-refused c =
    elim c.in_default.branch [
      | in_default-via-then-words-lt3 w ↦
          inr (few_or_many_of_telling c.args.order c.args.words.now (inl (search rules)))
      | in_default-via-else-words-lt3+else-words-lt4 w ↦
          inr (few_or_many_of_telling c.args.order c.args.words.now (inr (search rules)))
    ]
