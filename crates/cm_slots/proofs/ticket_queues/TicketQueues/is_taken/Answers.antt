use Rattle.std.proofs.Common.{length, ap, arith}
use Rattle.cm_slots.proofs.Queues.{no_tiles_yet, some_tiles, none_stand, tile_made, whole_at, length_at}
use Rattle.cm_slots.proofs.ticket_queues.TicketQueues.is_taken.Goals as goal

pub returns-then-is_empty : goal.returns-then-is_empty
returns-then-is_empty c =
    let none = no_tiles_yet c.self.inside.tiles c.is_empty.result c.is_empty.ensures c.if-is_empty.true in
    let nobody = ap length (none_stand c.self.invariant c.self.view_is none c.args.chip c.requires.chip) in
    record { taken = (λ yes. absurd (cc yes), λ stands. absurd (omega (arith, stands, nobody))) }

pub index-requires : goal.index-requires
index-requires c =
    let some = some_tiles c.self.inside.tiles c.is_empty.result c.is_empty.ensures c.if-is_empty.false in
    rw (c.from.ensures, c.self.inside.tiles.ok.0)
    (tile_made c.self.invariant c.self.view_is c.args.chip c.requires.chip some)

pub is_taken-requires-clause-whole : goal.is_taken-requires-clause-whole
is_taken-requires-clause-whole c =
    let some = some_tiles c.self.inside.tiles c.is_empty.result c.is_empty.ensures c.if-is_empty.false in
    whole_at c.self.invariant c.self.view_is c.args.chip c.requires.chip some c.index.result.now
    (rw c.from.ensures at c.index.ensures)

pub returns : goal.returns
returns c =
    let some = some_tiles c.self.inside.tiles c.is_empty.result c.is_empty.ensures c.if-is_empty.false in
    record {
      taken = rw (length_at c.self.invariant c.self.view_is c.args.chip c.requires.chip some c.index.result.now
          (rw c.from.ensures at c.index.ensures)) at (rw c.from.ensures at c.is_taken.ensures.taken);
    }
