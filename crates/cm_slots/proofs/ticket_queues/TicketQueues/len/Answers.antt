use Rattle.std.proofs.Common.{◌∙◌, refl}
use Rattle.cm_slots.proofs.Queues.{no_tiles_yet, some_tiles, none_stand, tile_made, whole_at, length_at}
use Rattle.cm_slots.proofs.ticket_queues.TicketQueues.len.Goals as goal

pub returns-then-is_empty-clause-value : goal.returns-then-is_empty-clause-value
returns-then-is_empty-clause-value c =
    let none = no_tiles_yet c.self.inside.tiles c.is_empty.result c.is_empty.ensures c.if-is_empty.true in
    rw (none_stand c.self.invariant c.self.view_is none c.args.chip c.requires.chip) refl

pub index-requires : goal.index-requires
index-requires c =
    let some = some_tiles c.self.inside.tiles c.is_empty.result c.is_empty.ensures c.if-is_empty.false in
    rw (c.from.ensures, c.self.inside.tiles.ok.0)
    (tile_made c.self.invariant c.self.view_is c.args.chip c.requires.chip some)

pub len-requires-clause-whole : goal.len-requires-clause-whole
len-requires-clause-whole c =
    let some = some_tiles c.self.inside.tiles c.is_empty.result c.is_empty.ensures c.if-is_empty.false in
    whole_at c.self.invariant c.self.view_is c.args.chip c.requires.chip some c.index.result.now
    (rw c.from.ensures at c.index.ensures)

pub returns-clause-value : goal.returns-clause-value
returns-clause-value c =
    let some = some_tiles c.self.inside.tiles c.is_empty.result c.is_empty.ensures c.if-is_empty.false in
    (rw c.from.ensures at c.len.ensures.value)
    ∙ length_at c.self.invariant c.self.view_is c.args.chip c.requires.chip some c.index.result.now
    (rw c.from.ensures at c.index.ensures)
