use Rattle.cm_bits.specs.Bit.{bit}
use Rattle.cm_truth.proofs.Choosing.{eight_chosen}
use Rattle.cm_truth.proofs.apply.Goals as goal

pub returns : goal.returns
returns c = record {
  value = λ p h. rw (c.changed.ensures.value p, c.chosen-low.ensures.value p, c.chosen-change.ensures.value p)
      (simp (
        c.low_entries.ensures.neither p h,
        c.low_entries.ensures.by_f p h,
        c.low_entries.ensures.by_b p h,
        c.low_entries.ensures.by_both p h,
        c.changes.ensures.neither p h,
        c.changes.ensures.by_f p h,
        c.changes.ensures.by_b p h,
        c.changes.ensures.by_both p h,
      )
      (eight_chosen c.args.table (bit c.args.a p) (bit c.args.b p) (bit c.args.f p)));
}
