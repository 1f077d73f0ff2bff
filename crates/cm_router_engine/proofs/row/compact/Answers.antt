use Rattle.std.proofs.Common.{◌≡◌, ℕ, ◌<◌, [], length, below_more, arith, ext_get_or}
use Rattle.std.proofs.lemmas.Grind.{elements}
use Rattle.std.proofs.lemmas.List.{length-map}
use Rattle.std.proofs.lemmas.List.Elements.{All-from_get_or}
use Rattle.cm_model.specs.Array.{nth_or_nil}
use Rattle.cm_router_engine.specs.Standing.{standing, all_standing, HaveMessages, AreTogether, AreLaidOut}
use Rattle.cm_router_engine.proofs.Carrying.{standing_at}
use Rattle.cm_router_engine.proofs.Keeping.{laid_value, laid_kept, laid_together, laid_longer}
use Rattle.cm_router_engine.proofs.row.compact.Goals as goal

pub loop-c-preserved : goal.loop-c-preserved
loop-c-preserved c =
    let was = c.loop-c.invariant in
    let next = c.carry_over.new.slots in
    record {
      long = grind (arith, elements);
      done = below_more _ _ (λ k h.
          let other : nth_or_nil next k ≡ nth_or_nil c.loop-c.slots k = grind (arith, elements) in
          rw (c.carry_over.ensures.items, other) (laid_longer (was.done k h) _))
          (rw (← was.ahead c.loop-c.c (omega arith)) c.carry_over.ensures.value);
      ahead = grind (arith, elements);
      len = omega (arith, c.carry_over.ensures.len, was.len);
      capacity = omega (arith, c.carry_over.ensures.capacity, was.capacity);
    }

pub returns : goal.returns
returns c =
    let was = c.loop-c.invariant in
    let row = c.args.row.now in
    let spare = c.loop-c.spare.items in
    let laid : (k : ℕ) → k < length c.loop-c.slots
    → AreLaidOut row spare (nth_or_nil c.args.slots.now k) (nth_or_nil c.loop-c.slots k) =
    λ k l. was.done k (omega (arith, was.long, c.chips-c-end.ensures.value, c.loop-c-test.false)) in
    record {
      value = ext_get_or [] (all_standing spare c.loop-c.slots) (all_standing row c.args.slots.now)
          (grind (arith, length-map))
          (λ k l. simp standing_at (laid_value (laid k (rw (length-map c.loop-c.slots (standing spare)) at l))));
      kept = All-from_get_or (HaveMessages (length spare)) c.loop-c.slots [] (λ k l. laid_kept (laid k l));
      together = All-from_get_or (AreTogether spare) c.loop-c.slots [] (λ k l. laid_together (laid k l));
      filled = omega (arith, was.len, c.chips-c-end.ensures.value);
      capacity = was.capacity;
    }
