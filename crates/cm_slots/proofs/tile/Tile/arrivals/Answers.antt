use Rattle.std.proofs.Common.{◌≡◌, ◌<◌, ◌≤◌, ◌||◌, Bool, true, false, arith, sym, refl, ap, ◌∙◌, length, ⊎_elim, bit_or}
use Rattle.std.proofs.lemmas.Bool.{cases_lt}
use Rattle.cm_bits.specs.Bit.{bit}
use Rattle.cm_model.proofs.Bits.{bit-zero, bit-bit_or}
use Rattle.cm_slots.specs.Slots.{is_arrival}
use Rattle.cm_slots.specs.Tiles.{slots_of, numbers_standing_at}
use Rattle.cm_slots.proofs.Standing.{ends_at}
use Rattle.cm_slots.proofs.Arriving.{none_arrived, one_arrived, slot_behind_first, either_bit, neither_bit, as_told}
use Rattle.cm_slots.proofs.tile.Tile.arrivals.Goals as goal

pub returns-then-is_quiet : goal.returns-then-is_quiet
returns-then-is_quiet c = record {
  value = λ i inside.
      let are = c.requires.whole.queues i inside in
      let blank = c.is_quiet.ensures.none.0 c.if-is_quiet.true i inside in
      let few = (ends_at 0 (slots_of c.args.self.now i) (numbers_standing_at c.args.self.now i) are).0 blank in
      bit-zero i ∙ sym (none_arrived _ _ are (λ j l. absurd (omega (arith, few, l))));
}

pub loop-k-init : goal.loop-k-init
loop-k-init c = record {
  some = λ i inside is. one_arrived _ _ (c.requires.whole.queues i inside) 0
      (sym (c.arrivals-lanes.ensures.value i inside) ∙ is);
  none = λ i j inside below is.
      let first : j ≡ 0 = omega arith in
      rw first (sym (c.arrivals-lanes.ensures.value i inside) ∙ is);
}

pub loop-k-preserved : goal.loop-k-preserved
loop-k-preserved c =
    let k = c.loop-k.k in
    let was = c.loop-k.lanes in
    let more = c.arrivals-lanes-in-loop-k.result in
    record {
      some = λ i inside is. either_bit was more i is (c.loop-k.invariant.some i inside)
          (λ set. one_arrived _ _ (c.requires.whole.queues i inside) k
          (ap is_arrival (slot_behind_first c.args.self.now i k (omega (arith, c.loop-k.auto.k)))
          ∙ sym (c.arrivals-lanes-in-loop-k.ensures.value i inside) ∙ set));
      none = λ i j inside below is. ⊎_elim
          (λ (earlier : j < k). c.loop-k.invariant.none i j inside earlier (neither_bit was more i is).0)
          (λ (l : k ≤ j). let last : j ≡ k = omega arith in
          rw last (ap is_arrival (slot_behind_first c.args.self.now i k (omega (arith, c.loop-k.auto.k)))
          ∙ sym (c.arrivals-lanes-in-loop-k.ensures.value i inside) ∙ (neither_bit was more i is).1))
          (cases_lt j k);
    }

pub returns : goal.returns
returns c = record {
  value = λ i inside.
      let are = c.requires.whole.queues i inside in
      as_told (bit c.loop-k.lanes i) _ (c.loop-k.invariant.some i inside)
      (λ is. none_arrived _ _ are (λ j l. c.loop-k.invariant.none i j inside
      (omega (arith, l, c.requires.within i inside, c.loop-k-test.false)) is));
}
