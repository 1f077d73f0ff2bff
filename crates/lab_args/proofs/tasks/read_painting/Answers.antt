use Rattle.std.proofs.Common.{inl, inr, rules}
use Rattle.lab_args.proofs.Forms.{few_or_many_of_painting}
use Rattle.lab_args.proofs.tasks.read_painting.Goals as goal
use Rattle.lab_args.proofs.tasks.read_painting.Goals.{in_default-via-then-words-lt4}
use Rattle.lab_args.proofs.tasks.read_painting.Goals.{in_default-via-else-words-lt4+else-words-lt5}

pub returns-in_default-clause-refused : goal.returns-in_default-clause-refused
returns-in_default-clause-refused c =
    elim c.in_default.branch [
      | in_default-via-then-words-lt4 w ↦
          inr (few_or_many_of_painting c.args.words.now (inl (search rules)))
      | in_default-via-else-words-lt4+else-words-lt5 w ↦
          inr (few_or_many_of_painting c.args.words.now (inr (search rules)))
    ]
