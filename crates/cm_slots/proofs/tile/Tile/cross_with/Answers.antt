use Rattle.std.proofs.Common.{arith, refl}
use Rattle.cm_slots.proofs.Runs.{has_crossed, none_crossed, come_behind, place-far}
use Rattle.cm_slots.proofs.tile.Tile.cross_with.Goals as goal

pub returns-then-is_none-2 : goal.returns-then-is_none-2
returns-then-is_none-2 c =
    let here = c.leave-here.ensures in
    let there = c.leave-there.ensures in
    let quiet = here.quiet (grind arith) in
    let other = there.quiet (grind arith) in
    record {
      value = none_crossed _ _ _ _ _ _ _ _ _ here.value there.value quiet other;
      other = none_crossed _ _ _ _ _ _ _ _ _ there.value here.value other quiet;
    }

pub take_in-requires-clause-taken : goal.take_in-requires-clause-taken
take_in-requires-clause-taken c = λ i h. rw (c.trade.ensures.here i h) (c.leave-there.ensures.value.gone i h).taken

pub take_in-requires-2-clause-taken : goal.take_in-requires-2-clause-taken
take_in-requires-2-clause-taken c = λ i h. rw (c.trade.ensures.there i h) (c.leave-here.ensures.value.gone i h).taken

pub returns-clause-value : goal.returns-clause-value
returns-clause-value c = has_crossed c.leave-here.ensures.value (come_behind refl (rw c.unwrap_or.ensures at c.take_in.ensures.value)) _
    c.args.other.now c.leave-there.new.self c.leave-there.ensures.value
    (λ i h. rw (place-far c.args.dim c.requires.far i) (c.trade.ensures.here i h))

pub returns-clause-other : goal.returns-clause-other
returns-clause-other c =
    has_crossed c.leave-there.ensures.value (come_behind refl (rw c.unwrap_or-2.ensures at c.take_in-2.ensures.value)) _
    c.args.self.now c.leave-here.new.self c.leave-here.ensures.value
    (λ i h. rw (place-far c.args.dim c.requires.far i) (c.trade.ensures.there i h))
