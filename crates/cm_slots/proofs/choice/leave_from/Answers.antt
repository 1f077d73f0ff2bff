use Rattle.std.proofs.Common.{◌≡◌, set, add-one, rules, arith}
use Rattle.std.proofs.lemmas.Grind.{common_steps}
use Rattle.cm_slots.specs.Slots.{slot_in, slot_behind}
use Rattle.cm_slots.proofs.Choosing.{none_carried_from, one_more_carried_from}
use Rattle.cm_slots.proofs.choice.leave_from.Goals as goal

pub loop-k-init : goal.loop-k-init
loop-k-init c = record {
  shape = c.requires.shape;
  value = λ i h. none_carried_from _ (slot_in c.args.first.now c.args.rest.now i);
}

pub loop-k-preserved : goal.loop-k-preserved
loop-k-preserved c = record {
  shape = search (rules, common_steps, c.loop-k.invariant.shape);
  value = λ i h. rw add-one (one_more_carried_from _ c.loop-k.k (slot_in c.args.first.now c.args.rest.now i)
      (slot_behind c.loop-k.rest i) (slot_behind (set c.loop-k.rest c.loop-k.k c.pass_from.new.row) i) _ _
      (c.pass_from.ensures.carried i h) (grind (arith, common_steps, c.pass_from.ensures.row i h))
      (λ j e. grind (arith, common_steps)) (c.loop-k.invariant.value i h));
}

pub returns-clause-value : goal.returns-clause-value
returns-clause-value c =
    let last : c.loop-k.k ≡ c.args.count = omega (arith, c.loop-k.auto.k-end, c.loop-k-test.false) in
    λ i h. rw last at (c.loop-k.invariant.value i h)
