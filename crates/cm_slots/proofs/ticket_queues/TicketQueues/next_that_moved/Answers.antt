use Rattle.std.proofs.Common.{arith}
use Rattle.cm_slots.proofs.Queues.{chip_count, within_tiles, none_at}
use Rattle.cm_slots.proofs.ticket_queues.TicketQueues.next_that_moved.Goals as goal

pub have_arrival_over-requires : goal.have_arrival_over-requires
have_arrival_over-requires c = rw c.deref.ensures.value (record {
  whole = c.self.invariant.kept.are.whole;
  few = within_tiles c.self.invariant c.self.view_is 1 c.requires.few;
})

pub returns-then-not-have_arrival_over-clause-none : goal.returns-then-not-have_arrival_over-clause-none
returns-then-not-have_arrival_over-clause-none c = λ k from below.
    none_at c.self.invariant c.self.view_is k (omega (arith, below, chip_count c.self.invariant c.self.view_is))
    ((rw c.deref.ensures.value at c.have_arrival_over.ensures.none) c.if-not-have_arrival_over.true)
