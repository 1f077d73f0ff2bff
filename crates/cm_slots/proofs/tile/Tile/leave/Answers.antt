use Rattle.cm_slots.specs.Tiles.{slots_of, IsQuiet}
use Rattle.cm_slots.proofs.Standing.{nobody_goes, nobody_stays, nobody}
use Rattle.cm_slots.proofs.tile.Tile.leave.Goals as goal

pub returns-then-is_quiet : goal.returns-then-is_quiet
returns-then-is_quiet c =
    let old = c.args.self.now in
    let quiet : IsQuiet old = λ i h. let are = c.requires.whole.queues i h in
    rw (← nobody (slots_of old i) _ are (c.is_quiet.ensures.none.0 c.if-is_quiet.true i h)) are in
    record {
      value = record {
        shape = c.requires.whole.shape;
        gone = λ i h. nobody_goes c.args.order c.args.dim c.args.sizes.room old i (quiet i h) c.args.sizes.bounds.some_room;
        few = λ i h. nobody_stays c.args.order c.args.dim c.args.sizes.room old i (quiet i h);
      };
      most = c.args.sizes.bounds.some_room;
      quiet = λ none. quiet;
    }
