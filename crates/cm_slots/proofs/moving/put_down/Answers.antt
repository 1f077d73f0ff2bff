use Rattle.std.proofs.Common.{◌/◌, ℕ}
use Rattle.std.specs.Prelude.{bit_xor}
use Rattle.cm_slots.specs.declared.tile.Tile.{Tile}
use Rattle.cm_slots.specs.Runs.{leavers_at}
use Rattle.cm_slots.specs.Moves.{HasMoved}
use Rattle.cm_slots.proofs.Moves.{first_taken}
use Rattle.cm_slots.proofs.Runs.{one_more_done}
use Rattle.cm_slots.proofs.moving.put_down.Goals as goal

pub put_down-requires-clause-taken : goal.put_down-requires-clause-taken
put_down-requires-clause-taken c =
    let t = c.loop-t.t in
    rw c.from.ensures (first_taken c.args.tiles.now c.args.firsts.now c.requires.whole c.requires.firsts
    (bit_xor t (c.args.dims / 64)) (c.requires.across t c.loop-t-test.true))

pub loop-t-preserved : goal.loop-t-preserved
loop-t-preserved c =
    let t = c.loop-t.t in
    let step : ℕ → Tile → Tile → Type 0 =
    λ s old new. HasMoved c.args.dims (leavers_at c.args.firsts.now (bit_xor s (c.args.dims / 64))) new in
    one_more_done step step c.args.tiles.now c.loop-t.tiles t c.put_down.new.self c.loop-t-test.true
    (λ s old new h has. has) (rw c.from.ensures at c.put_down.ensures.value) c.loop-t.invariant
