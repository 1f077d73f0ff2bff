use Rattle.std.proofs.Common.{inl, inr, rules}
use Rattle.lab_args.proofs.Forms.{few_or_many_of_picture}
use Rattle.lab_args.proofs.tasks.read_picture_in.Goals as goal
use Rattle.lab_args.proofs.tasks.read_picture_in.Goals.{in_default-via-then-words-lt2}
use Rattle.lab_args.proofs.tasks.read_picture_in.Goals.{in_default-via-else-words-lt2+else-words-lt3+else-words-lt4}

pub returns-in_default-clause-refused : goal.returns-in_default-clause-refused
returns-in_default-clause-refused c =
    elim c.in_default.branch [
      | in_default-via-then-words-lt2 w ↦
          inr (few_or_many_of_picture c.args.look c.args.words.now (inl (search rules)))
      | in_default-via-else-words-lt2+else-words-lt3+else-words-lt4 w ↦
          inr (few_or_many_of_picture c.args.look c.args.words.now (inr (search rules)))
    ]
