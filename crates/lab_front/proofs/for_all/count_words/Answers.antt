use Rattle.std.proofs.Common.{inl, arith}
use Rattle.lab_front.proofs.Counting.{few_words}
use Rattle.lab_front.proofs.for_all.count_words.Goals as goal

pub count-requires-clause-fits : goal.count-requires-clause-fits
count-requires-clause-fits c = inl (omega (arith, few_words c.args.words.rest.now))
