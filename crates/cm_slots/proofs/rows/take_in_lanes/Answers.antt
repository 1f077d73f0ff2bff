use Rattle.std.proofs.Common.{◌≡◌, ℕ, List, ◌<◌, ◌+◌, ◌-◌, ◌∙◌, suc, length, set, rules, arith}
use Rattle.std.proofs.lemmas.Grind.{common_steps}
use Rattle.cm_slots.specs.Slots.{slot_in, slot_behind}
use Rattle.cm_slots.proofs.Carrying.{one_more_brought, has_come, row_changed, same_lane}
use Rattle.cm_slots.proofs.rows.take_in_lanes.Goals as goal

pub loop-k-preserved : goal.loop-k-preserved
loop-k-preserved c =
    let k = c.loop-k.k in
    let rest = c.loop-k.rest in
    let new : List (List ℕ) = set rest (k - 1) c.pass_back.new.row in
    let last : k ≡ suc (k - 1) = omega (arith, c.loop-k-test.true) in
    let inside : k - 1 < length rest =
    omega (arith, c.loop-k.invariant.shape.tall, c.requires.count, c.loop-k.auto.k, c.loop-k-test.true) in
    record {
      shape = search (rules, common_steps, c.loop-k.invariant.shape);
      long = c.pass_back.ensures.long;
      value = λ j xs h few are. one_more_brought (k - 1) _ xs (slot_behind c.args.rest.now (c.args.at + j))
          (slot_behind rest (c.args.at + j)) (slot_behind new (c.args.at + j)) _ _ are
          (c.pass_back.ensures.carried j h) (grind (arith, common_steps, c.pass_back.ensures.row j h))
          (λ s e. grind (arith, common_steps)) (rw last at (c.loop-k.invariant.value j xs h few are));
      before = λ i j h. row_changed rest (k - 1) c.pass_back.new.row i j inside (c.pass_back.ensures.before i h)
          ∙ c.loop-k.invariant.before i j h;
      behind = λ i j h. row_changed rest (k - 1) c.pass_back.new.row i j inside (c.pass_back.ensures.behind i h)
          ∙ c.loop-k.invariant.behind i j h;
    }

pub returns : goal.returns
returns c =
    let last : c.loop-k.k ≡ 0 = omega (arith, c.loop-k-test.false) in
    let was = c.loop-k.invariant in
    record {
      value = λ j xs h few most are. has_come xs _ (slot_in c.put_lanes.new.row c.loop-k.rest (c.args.at + j))
          (slot_behind c.args.rest.now (c.args.at + j)) most (c.requires.taken j h) are
          (rw (c.put_lanes.ensures.value j h) (rw last at (was.value j xs h few are)));
      before = λ i j h. same_lane _ _ _ _ i (c.put_lanes.ensures.before i h) (λ s. was.before i s h) j;
      behind = λ i j h. same_lane _ _ _ _ i (c.put_lanes.ensures.behind i h) (λ s. was.behind i s h) j;
      shape = record { long = c.put_lanes.ensures.wide; tall = was.shape.tall; wide = was.shape.wide };
    }
