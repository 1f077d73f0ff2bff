use Rattle.cm_rows.proofs.Words.{bit-all, bit-asked}
use Rattle.cm_rows.proofs.block.choice_of.Goals as goal

pub returns-then-always : goal.returns-then-always
returns-then-always c = record { value = λ p h. rw c.if-always.true (bit-all p h) }

pub returns-else-always : goal.returns-else-always
returns-else-always c = record {
  value = λ p h. bit-asked c.args.always c.args.sense c.args.condition c.turned.result p c.if-always.false
      c.turned.ensures.value h;
}
