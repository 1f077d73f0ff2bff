use Rattle.std.proofs.Common.{◌/◌, arith}
use Rattle.std.proofs.lemmas.List.Elements.{All-from_get_or}
use Rattle.std.proofs.lemmas.Nat.{xor_shr}
use Rattle.cm_slots.specs.Tiles.{IsTile}
use Rattle.cm_slots.specs.Runs.{no_tile}
use Rattle.cm_slots.proofs.Moves.{chip_moved}
use Rattle.cm_slots.proofs.moving.move_over.Goals as goal

pub returns : goal.returns
returns c =
    let moved = c.put_down.ensures.value in
    let old = c.args.tiles.now in
    let new = c.put_down.new.tiles in
    record {
      value = λ k h. chip_moved old c.lift.new.firsts c.requires.whole c.lift.ensures.value c.args.dims new k c.requires.few
          (rw (xor_shr k c.args.dims 6) (c.requires.across (k / 64) h)) (moved (k / 64) h);
      whole = All-from_get_or IsTile new no_tile (λ t h. (moved t (omega (arith, c.put_down.auto.tiles))).whole);
    }
