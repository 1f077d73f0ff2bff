use Rattle.std.proofs.Common.{◌∙◌}
use Rattle.std.specs.Int.{bit_at}
use Rattle.std.proofs.lemmas.Nat.Bits.{shr_and_one, bit_at-lt}
use Rattle.cm_truth.proofs.Choosing.{spread}
use Rattle.cm_truth.proofs.entry_everywhere.Goals as goal

pub returns : goal.returns
returns c = record {
  value = λ p h. rw (c.from.ensures ∙ shr_and_one c.args.table c.args.place)
      (spread (bit_at c.args.table c.args.place) (bit_at-lt c.args.table c.args.place) p h);
}
