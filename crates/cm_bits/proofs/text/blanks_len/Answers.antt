use Rattle.std.proofs.Common.{arith, sym}
use Rattle.std.proofs.lemmas.List.Sums.{prefix_len_is}
use Rattle.cm_bits.specs.Text.{is_blank}
use Rattle.cm_bits.proofs.text.blanks_len.Goals as goal

pub returns-then-not-is_blank-clause-place : goal.returns-then-not-is_blank-clause-place
returns-then-not-is_blank-clause-place c =
    sym (prefix_len_is is_blank c.args.bytes.now c.loop-i.i 0 (omega arith) c.loop-i.invariant (λ _. cc))

pub returns-clause-place : goal.returns-clause-place
returns-clause-place c =
    sym (prefix_len_is is_blank c.args.bytes.now _ 0 (omega arith) (λ k l. c.loop-i.invariant k (omega arith))
    (λ l. absurd (omega arith)))
