use Rattle.std.proofs.Common.{◌/◌, ◌%◌, arith}
use Rattle.cm_slots.proofs.Moves.{told_over}
use Rattle.cm_slots.proofs.moving.have_arrival_over.Goals as goal

pub returns : goal.returns
returns c = record {
  none = λ no k h. told_over c.args.dims c.args.tiles.now k h c.requires.whole c.requires.few
      (c.loop-tile.invariant (k / 64) (k % 64) (omega (arith, c.loop-tile-test.false))
      (omega arith));
}
