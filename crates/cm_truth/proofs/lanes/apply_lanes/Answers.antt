use Rattle.std.proofs.Common.{get_or}
use Rattle.cm_bits.specs.Bit.{bit}
use Rattle.cm_truth.proofs.Choosing.{eight_chosen}
use Rattle.cm_truth.proofs.lanes.apply_lanes.Goals as goal

pub returns : goal.returns
returns g c = record {
  count = c.changed_lanes.ensures.count;
  value = λ k below p h. rw (
    c.changed_lanes.ensures.value k below p,
    c.chosen_lanes.ensures.value k below p,
    c.chosen_lanes-2.ensures.value k below p,
  )
      (simp (
        c.low_entries.ensures.neither p h,
        c.low_entries.ensures.by_f p h,
        c.low_entries.ensures.by_b p h,
        c.low_entries.ensures.by_both p h,
        c.changes.ensures.neither p h,
        c.changes.ensures.by_f p h,
        c.changes.ensures.by_b p h,
        c.changes.ensures.by_both p h,
      )
      (eight_chosen c.args.table (bit (get_or c.args.a k 0) p) (bit (get_or c.args.b k 0) p)
      (bit (get_or c.args.f k 0) p)));
}
