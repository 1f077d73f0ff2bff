use Rattle.std.proofs.Common.{◌≡◌, ◌∙◌, ap, sym, refl, arith, ℕ, List}
use Rattle.std.specs.List.{list_any}
use Rattle.cm_slots.specs.declared.ticket.Ticket.{Ticket}
use Rattle.cm_slots.specs.Tickets.{has_come}
use Rattle.cm_slots.specs.Runs.{queues_in, tickets_of}
use Rattle.cm_slots.proofs.Moves.{within_is}
use Rattle.cm_slots.proofs.Queues.{no_tiles_yet, some_tiles, chip_count, none_stand, within_tiles, unmoved}
use Rattle.cm_slots.proofs.ticket_queues.TicketQueues.next_arrived.Goals as goal

pub next_that_moved-requires-clause-few : goal.next_that_moved-requires-clause-few
next_that_moved-requires-clause-few c =
    (within_is c.self.inside.noted (queues_in c.self.inside.chips c.self.inside.tiles.items) c.self.view_is 1
    c.self.invariant.movable.inside).0 (c.self.invariant.movable.few c.if-self-ne0.true)

pub next_arrived-requires-clause-within : goal.next_arrived-requires-clause-within
next_arrived-requires-clause-within c =
    rw c.deref.ensures.value (within_tiles c.self.invariant c.self.view_is c.args.sizes.room c.requires.within)

pub next_arrived-requires-clause-chips : goal.next_arrived-requires-clause-chips
next_arrived-requires-clause-chips c =
    let made = some_tiles c.self.inside.tiles c.is_empty.result c.is_empty.ensures c.if-is_empty.false in
    rw c.deref.ensures.value (omega (arith, c.self.invariant.kept.are.count made))

pub next_arrived-requires-clause-known : goal.next_arrived-requires-clause-known
next_arrived-requires-clause-known c =
    let many = chip_count c.self.invariant c.self.view_is in
    rw c.deref.ensures.value (λ k from below is. c.requires.known k from (omega (arith, below, many)) is
    ∙ ap (λ (ts : List Ticket). list_any has_come ts)
    (unmoved c.self.invariant c.self.view_is (omega (arith, c.if-self-ne0.false)) k (omega (arith, below, many))))

pub returns-then-is_empty-clause-none : goal.returns-then-is_empty-clause-none
returns-then-is_empty-clause-none c = λ k from below.
    let none = no_tiles_yet c.self.inside.tiles c.is_empty.result c.is_empty.ensures c.if-is_empty.true in
    let low = chip_count c.self.invariant c.self.view_is in
    rw (none_stand c.self.invariant c.self.view_is none k (omega (arith, below, low))) refl

pub returns-else-is_empty-clause-known : goal.returns-else-is_empty-clause-known
returns-else-is_empty-clause-known c = λ k from inside is.
    (rw c.deref.ensures.value at c.next_arrived.ensures.known) k from
    (omega (arith, inside, chip_count c.self.invariant c.self.view_is)) is
    ∙ ap (λ (ts : List Ticket). list_any has_come ts)
    (sym (unmoved c.self.invariant c.self.view_is (omega (arith, c.if-self-ne0.false)) k inside))

pub returns-else-is_empty-clause-none : goal.returns-else-is_empty-clause-none
returns-else-is_empty-clause-none c = λ k from below.
    let many = chip_count c.self.invariant c.self.view_is in
    ap (λ (ts : List Ticket). list_any has_come ts)
    (unmoved c.self.invariant c.self.view_is (omega (arith, c.if-self-ne0.false)) k (omega (arith, below, many, c.min.ensures)))
    ∙ (rw c.deref.ensures.value at c.next_arrived.ensures.none) k from (omega (arith, below, c.min.ensures))
    (omega (arith, below, many, c.min.ensures))

pub returns-else-is_empty-clause-arrived : goal.returns-else-is_empty-clause-arrived
returns-else-is_empty-clause-arrived c = λ inside.
    let many = chip_count c.self.invariant c.self.view_is in
    let same : c.min.result ≡ c.next_arrived.result = omega (arith, inside, many, c.min.ensures) in
    ap (λ (ts : List Ticket). list_any has_come ts)
    (unmoved c.self.invariant c.self.view_is (omega (arith, c.if-self-ne0.false)) c.min.result inside)
    ∙ ap (λ (k : ℕ). list_any has_come (tickets_of c.self.inside.tiles.items k)) same
    ∙ (rw c.deref.ensures.value at c.next_arrived.ensures.arrived) (omega (arith, same, inside, many))
