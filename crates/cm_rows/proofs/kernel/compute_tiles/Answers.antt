use Rattle.std.proofs.Common.{false, ◌≡◌, ◌≤◌, ℕ, ◌+◌, ◌*◌, length, arith}
use Rattle.cm_rows.proofs.Joining.{joined, unread, within, all_apart_sooner, one_more, block_fits, AreUnread}
use Rattle.cm_rows.proofs.kernel.compute_tiles.Goals as goal

pub loop-t-preserved : goal.loop-t-preserved
loop-t-preserved c =
    let at = c.args.at in
    let long : length c.loop-t.choice ≡ 256 = omega (arith, c.loop-t.auto.choice, c.requires.choice) in
    let mid : ℕ = 256 * c.loop-t.t in
    let to : ℕ = 256 * c.loop-t.t + 256 in
    let next : 256 * (c.loop-t.t + 1) ≡ 256 * c.loop-t.t + 256 = one_more 256 c.loop-t.t in
    let few : 256 * c.loop-t.t + 256 ≤ 256 * c.args.tiles =
    block_fits 256 c.loop-t.t c.args.tiles (omega arith) in
    let now = c.loop-t.invariant in
    let same : AreUnread at mid to c.args.memory.now c.loop-t.memory c.args.flags.now c.loop-t.flags =
    unread at 0 mid to c.args.memory.now c.loop-t.memory c.args.flags.now c.loop-t.flags
    (within c.args.tables.0 false c.args.always c.args.sense at at.a 0 mid c.args.memory.now c.args.flags.now
    c.args.memory.now c.loop-t.memory now.memory)
    (within c.args.tables.1 c.args.chained c.args.always c.args.sense at at.write 0 mid c.args.memory.now
    c.args.flags.now c.args.flags.now c.loop-t.flags now.flags)
    (all_apart_sooner at to (256 * c.args.tiles) few c.requires.apart) in
    rw next (record {
      memory = joined c.args.tables.0 false c.args.always c.args.sense at at.a 0 mid to c.args.memory.now
          c.loop-t.memory c.args.flags.now c.loop-t.flags c.args.memory.now c.loop-t.memory c.tile.new.memory
          (omega arith) (omega arith) now.memory (rw long at c.tile.ensures.memory) same;
      flags = joined c.args.tables.1 c.args.chained c.args.always c.args.sense at at.write 0 mid to c.args.memory.now
          c.loop-t.memory c.args.flags.now c.loop-t.flags c.args.flags.now c.loop-t.flags c.tile.new.flags
          (omega arith) (omega arith) now.flags (rw long at c.tile.ensures.flags) same;
    })
