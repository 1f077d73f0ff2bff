use Rattle.std.proofs.Common.{arith}
use Rattle.cm_slots.specs.Tiles.{slots_of, numbers_standing_at}
use Rattle.cm_slots.proofs.Standing.{ends_at}
use Rattle.cm_slots.proofs.tile.Tile.is_taken.Goals as goal

pub returns : goal.returns
returns c =
    let ends = ends_at c.args.slot (slots_of c.args.self.now c.args.place) (numbers_standing_at c.args.self.now c.args.place)
    (c.requires.whole.queues c.args.place c.requires.place) in
    record {
      taken = (grind (arith, ends.1, c.slot.ensures.value), grind (arith, ends.0, c.slot.ensures.value));
    }
