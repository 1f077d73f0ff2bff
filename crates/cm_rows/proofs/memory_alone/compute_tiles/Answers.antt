use Rattle.std.proofs.Common.{false, ◌≡◌, ◌≤◌, ℕ, ◌+◌, ◌*◌, length, arith}
use Rattle.cm_rows.proofs.Joining.{joined, unread_memory, within, apart_sooner, one_more, block_fits}
use Rattle.cm_rows.proofs.memory_alone.compute_tiles.Goals as goal

pub loop-t-preserved : goal.loop-t-preserved
loop-t-preserved c =
    let at = c.args.at in
    let long : length c.loop-t.choice ≡ 256 = omega (arith, c.loop-t.auto.choice, c.requires.choice) in
    let mid : ℕ = 256 * c.loop-t.t in
    let to : ℕ = 256 * c.loop-t.t + 256 in
    let next : 256 * (c.loop-t.t + 1) ≡ 256 * c.loop-t.t + 256 = one_more 256 c.loop-t.t in
    let few : 256 * c.loop-t.t + 256 ≤ 256 * c.args.tiles =
    block_fits 256 c.loop-t.t c.args.tiles (omega arith) in
    rw next (joined c.args.table false c.args.always c.args.sense at at.a 0 mid to c.args.memory.now c.loop-t.memory
    c.args.flags.now c.args.flags.now c.args.memory.now c.loop-t.memory c.tile.new.memory
    (omega arith) (omega arith) c.loop-t.invariant (rw long at c.tile.ensures.memory)
    (unread_memory at 0 mid to c.args.memory.now c.loop-t.memory c.args.flags.now
    (within c.args.table false c.args.always c.args.sense at at.a 0 mid c.args.memory.now c.args.flags.now
    c.args.memory.now c.loop-t.memory c.loop-t.invariant)
    (apart_sooner at.a at.b to (256 * c.args.tiles) few c.requires.b_apart)))
