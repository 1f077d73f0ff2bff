use Rattle.std.proofs.Common.{◌≡◌, ◌*◌, ◌%◌, ◌^◌, arith}
use Rattle.std.proofs.lemmas.Nat.{pow_below}
use Rattle.cm_slots.specs.Runs.{queues_in}
use Rattle.cm_slots.proofs.Moves.{one_more_noted, movable_too}
use Rattle.cm_slots.proofs.ticket_queues.TicketQueues.note.Goals as goal

pub invariant_of-self : goal.invariant_of-self
invariant_of-self c =
    let bit : 1 * 2 ^ c.args.dim % 65536 ≡ 2 ^ c.args.dim =
    omega (arith, pow_below c.args.dim 16 (omega (arith, c.requires.dim, c.requires.dimension))) in
    record {
      kept = c.self.invariant.kept;
      movable = rw bit (movable_too c.self.inside.noted (queues_in c.self.inside.chips c.self.inside.tiles.items)
          c.self.view_is c.self.invariant.movable c.requires.count c.requires.dim c.requires.few);
    }

pub returns : goal.returns
returns c =
    let bit : 1 * 2 ^ c.args.dim % 65536 ≡ 2 ^ c.args.dim =
    omega (arith, pow_below c.args.dim 16 (omega (arith, c.requires.dim, c.requires.dimension))) in
    record {
      value = rw bit (one_more_noted c.self.inside.noted (queues_in c.self.inside.chips c.self.inside.tiles.items)
          c.self.view_is c.self.invariant.movable
          c.requires.count c.requires.dim);
    }
