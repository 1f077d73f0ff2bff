use Rattle.std.proofs.Common.{refl, arith}
use Rattle.std.proofs.lemmas.Nat.{le_or_l, le_or_r}
use Rattle.cm_slots.proofs.rows.is_blank.Goals as goal

pub loop-i-preserved : goal.loop-i-preserved
loop-i-preserved c = record {
  most = grind (arith, le_or_l, le_or_r);
  blank = λ b. rw (c.loop-i.invariant.blank b, b c.loop-i.i c.loop-i-test.true) refl;
}
