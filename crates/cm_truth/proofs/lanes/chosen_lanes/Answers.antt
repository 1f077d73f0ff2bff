use Rattle.std.proofs.Common.{get_or}
use Rattle.std.proofs.lemmas.Simd.{get_or-replicate}
use Rattle.cm_bits.specs.Bit.{bit}
use Rattle.cm_model.proofs.Bits.{bit-bit_xor}
use Rattle.cm_truth.proofs.Choosing.{four_chosen}
use Rattle.cm_truth.proofs.lanes.chosen_lanes.Goals as goal

pub returns : goal.returns
returns g c = record {
  count = c.changed_lanes.ensures.count;
  value = λ k h p. rw (
    c.changed_lanes.ensures.value k h p,
    c.changed_lanes-without.ensures.value k h p,
    c.changed_lanes-difference.ensures.value k h p,
    get_or-replicate g.row.L k c.args.four.neither 0 h,
  )
      (simp (get_or-replicate, bit-bit_xor) (four_chosen (bit (get_or c.args.b k 0) p) (bit (get_or c.args.f k 0) p)
      (bit c.args.four.neither p) (bit c.args.four.by_f p) (bit c.args.four.by_b p) (bit c.args.four.by_both p)));
}
