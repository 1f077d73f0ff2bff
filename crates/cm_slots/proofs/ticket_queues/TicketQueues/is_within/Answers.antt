use Rattle.std.proofs.Common.{arith, length, ap, refl}
use Rattle.cm_slots.proofs.Queues.{within_tiles, within_queues}
use Rattle.cm_slots.proofs.ticket_queues.TicketQueues.is_within.Goals as goal

pub returns-then-not-is_within : goal.returns-then-not-is_within
returns-then-not-is_within c = record {
  within = (
    λ yes. absurd (cc yes),
    λ few. rw c.if-not-is_within.true at (c.is_within.ensures.within.1 (λ i h.
        (rw (← c.deref-tile-items.ensures.value) at (within_tiles c.self.invariant c.self.view_is c.args.room few))
        c.loop-tile.tile-index i c.loop-tile-test.true h)),
  );
}

pub returns : goal.returns
returns c = record {
  within = (
    λ yes. within_queues c.self.invariant c.self.view_is c.args.room (λ t i h l.
        rw c.deref-tile-items.ensures.value at (c.loop-tile.invariant t i
        (omega (arith, h, c.loop-tile-test.false, ap length c.deref-tile-items.ensures.value)) l)),
    λ few. refl,
  );
}
