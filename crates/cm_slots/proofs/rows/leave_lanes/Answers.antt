use Rattle.std.proofs.Common.{◌≡◌, ℕ, List, ◌<◌, ◌+◌, ◌∙◌, length, set, add-one, refl, rules, arith}
use Rattle.std.proofs.lemmas.Grind.{common_steps}
use Rattle.cm_slots.specs.Slots.{slot_in, slot_behind}
use Rattle.cm_slots.proofs.Carrying.{none_carried, one_more_carried, row_changed, same_lane}
use Rattle.cm_slots.proofs.rows.leave_lanes.Goals as goal

pub loop-k-init : goal.loop-k-init
loop-k-init c =
    record {
      shape = c.requires.shape;
      long = c.lanes_from-carried.ensures.long;
      value = λ j h. rw (c.lanes_from-carried.ensures.value j h)
          (none_carried c.args.dim (slot_in c.args.first.now c.args.rest.now (c.args.at + j)));
      before = λ i j h. refl;
      behind = λ i j h. refl;
    }

pub loop-k-preserved : goal.loop-k-preserved
loop-k-preserved c =
    let k = c.loop-k.k in
    let rest = c.loop-k.rest in
    let new : List (List ℕ) = set rest k c.pass_on.new.row in
    let inside : k < length rest = omega (arith, c.loop-k.invariant.shape.tall, c.requires.count, c.loop-k-test.true) in
    record {
      shape = search (rules, common_steps, c.loop-k.invariant.shape);
      long = c.pass_on.ensures.long;
      value = λ j h. rw add-one (one_more_carried c.args.dim k
          (slot_in c.args.first.now c.args.rest.now (c.args.at + j)) (slot_behind rest (c.args.at + j))
          (slot_behind new (c.args.at + j)) _ _
          (c.pass_on.ensures.carried j h) (grind (arith, common_steps, c.pass_on.ensures.row j h))
          (λ s e. grind (arith, common_steps)) (c.loop-k.invariant.value j h));
      before = λ i j h. row_changed rest k c.pass_on.new.row i j inside (c.pass_on.ensures.before i h)
          ∙ c.loop-k.invariant.before i j h;
      behind = λ i j h. row_changed rest k c.pass_on.new.row i j inside (c.pass_on.ensures.behind i h)
          ∙ c.loop-k.invariant.behind i j h;
    }

pub returns : goal.returns
returns c =
    let last : c.loop-k.k ≡ c.args.count = omega (arith, c.loop-k.auto.k-end, c.loop-k-test.false) in
    let was = c.loop-k.invariant in
    record {
      value = λ j h. rw (c.put_lanes.ensures.value j h) (rw last at (was.value j h));
      before = λ i j h. same_lane _ _ _ _ i (c.put_lanes.ensures.before i h) (λ s. was.before i s h) j;
      behind = λ i j h. same_lane _ _ _ _ i (c.put_lanes.ensures.behind i h) (λ s. was.behind i s h) j;
      shape = record { long = c.put_lanes.ensures.wide; tall = was.shape.tall; wide = was.shape.wide };
    }
