use Rattle.std.proofs.Common.{◌∙◌, Some, ap, refl}
use Rattle.std.specs.Option.{option_map}
use Rattle.cm_slots.specs.Moves.{ticket_over}
use Rattle.cm_slots.proofs.Queues.{no_tiles_yet, some_tiles, none_stand, tile_made, whole_at, place_at}
use Rattle.cm_slots.proofs.ticket_queues.TicketQueues.ticket.Goals as goal

pub returns-then-is_empty-clause-value : goal.returns-then-is_empty-clause-value
returns-then-is_empty-clause-value c =
    let none = no_tiles_yet c.self.inside.tiles c.is_empty.result c.is_empty.ensures c.if-is_empty.true in
    rw (none_stand c.self.invariant c.self.view_is none c.args.chip c.requires.chip) refl

pub index-requires : goal.index-requires
index-requires c =
    let some = some_tiles c.self.inside.tiles c.is_empty.result c.is_empty.ensures c.if-is_empty.false in
    rw (c.from.ensures, c.self.inside.tiles.ok.0)
    (tile_made c.self.invariant c.self.view_is c.args.chip c.requires.chip some)

pub ticket-requires-clause-whole : goal.ticket-requires-clause-whole
ticket-requires-clause-whole c =
    let some = some_tiles c.self.inside.tiles c.is_empty.result c.is_empty.ensures c.if-is_empty.false in
    whole_at c.self.invariant c.self.view_is c.args.chip c.requires.chip some c.index.result.now
    (rw c.from.ensures at c.index.ensures)

pub returns-in-Some-clause-value : goal.returns-in-Some-clause-value
returns-in-Some-clause-value c =
    let some = some_tiles c.self.inside.tiles c.is_empty.result c.is_empty.ensures c.if-is_empty.false in
    ap Some c.over.ensures.value
    ∙ ap (option_map (ticket_over c.self.inside.noted)) (rw c.from.ensures at c.in-Some.ensures.value)
    ∙ place_at c.self.invariant c.self.view_is c.args.chip c.requires.chip some c.index.result.now
    (rw c.from.ensures at c.index.ensures) c.args.place

pub returns-in-None-clause-value : goal.returns-in-None-clause-value
returns-in-None-clause-value c =
    let some = some_tiles c.self.inside.tiles c.is_empty.result c.is_empty.ensures c.if-is_empty.false in
    ap (option_map (ticket_over c.self.inside.noted)) (rw c.from.ensures at c.in-None.ensures.value)
    ∙ place_at c.self.invariant c.self.view_is c.args.chip c.requires.chip some c.index.result.now
    (rw c.from.ensures at c.index.ensures) c.args.place
