use Rattle.std.proofs.Common.{◌≡◌, ◌-◌, suc, slice_index, add-one, arith}
use Rattle.std.proofs.lemmas.List.{get_or-replicate}
use Rattle.cm_slots.specs.Slots.{slot_in}
use Rattle.cm_slots.proofs.Choosing.{least_first, least_more}
use Rattle.cm_slots.proofs.choice.places.Goals as goal
use Rattle.cm_slots.proofs.choice.places.Goals.{then-count-eq0, else-count-eq0}

pub loop-k-init : goal.loop-k-init
loop-k-init c = record {
  value = λ i h. least_first c.args.dim (slot_in c.args.first.now c.args.rest.now i) _ _
      (get_or-replicate 64 i 2097151 0 h) (c.lower.ensures.value i h);
  long = c.lower.ensures.long;
}

pub loop-k-preserved : goal.loop-k-preserved
loop-k-preserved c = record {
  value = λ i h. rw add-one (least_more c.args.dim c.loop-k.k (slot_in c.args.first.now c.args.rest.now i) _ _
      (rw add-one at (c.lower-in-loop-k.ensures.value i h)) (c.loop-k.invariant.value i h));
  long = c.lower-in-loop-k.ensures.long;
}

pub returns-clause-value : goal.returns-clause-value
returns-clause-value c =
    let all : c.loop-k.k ≡ c.args.count = omega (arith, c.loop-k.auto.k-end, c.loop-k-test.false) in
    λ i h. record {
      key = slice_index c.loop-k.least i;
      least = rw all at (c.loop-k.invariant.value i h);
      found = elim c.if-count-eq0.branch [
        | then-count-eq0 w ↦ rw (w.if-count-eq0.true, ← w.last-is) (c.find.ensures.value i h)
        | else-count-eq0 w ↦
            let more : c.args.count ≡ suc (c.args.count - 1) = omega (arith, w.if-count-eq0.false) in
            rw more (rw w.last-is at (c.find.ensures.value i h))
      ];
    }
