use Rattle.std.proofs.Common.{arith, sym}
use Rattle.std.proofs.lemmas.List.Sums.{position_or_len_is}
use Rattle.lab_figures.specs.PictureReading.{is_space}
use Rattle.lab_figures.proofs.picture_reading.word_len.Goals as goal

pub returns-then-is_space-clause-value : goal.returns-then-is_space-clause-value
returns-then-is_space-clause-value c =
    sym (position_or_len_is is_space c.args.bytes.now c.loop-i.i 0 (omega arith) c.loop-i.invariant (λ _. cc))

pub returns-clause-value : goal.returns-clause-value
returns-clause-value c =
    sym (position_or_len_is is_space c.args.bytes.now _ 0 (omega arith) (λ k l. c.loop-i.invariant k (omega arith))
    (λ l. absurd (omega arith)))
