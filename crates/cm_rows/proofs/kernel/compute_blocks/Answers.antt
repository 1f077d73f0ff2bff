use Rattle.std.proofs.Common.{false, ◌≡◌, ◌≤◌, ℕ, ◌+◌, ◌*◌, arith}
use Rattle.cm_rows.proofs.Joining.{joined, unread, within, all_apart_sooner, one_more, block_fits, AreUnread}
use Rattle.cm_rows.proofs.kernel.compute_blocks.Goals as goal

pub loop-t-preserved : goal.loop-t-preserved
loop-t-preserved g c =
    let at = c.args.at in
    let mid : ℕ = g.row.L * c.loop-t.t in
    let to : ℕ = g.row.L * c.loop-t.t + g.row.L in
    let next : g.row.L * (c.loop-t.t + 1) ≡ g.row.L * c.loop-t.t + g.row.L = one_more g.row.L c.loop-t.t in
    let few : g.row.L * c.loop-t.t + g.row.L ≤ g.row.L * c.args.whole =
    block_fits g.row.L c.loop-t.t c.args.whole (omega arith) in
    let now = c.loop-t.invariant in
    let same : AreUnread at mid to c.args.memory.now c.loop-t.memory c.args.flags.now c.loop-t.flags =
    unread at 0 mid to c.args.memory.now c.loop-t.memory c.args.flags.now c.loop-t.flags
    (within c.args.tables.0 false c.args.always c.args.sense at at.a 0 mid c.args.memory.now c.args.flags.now
    c.args.memory.now c.loop-t.memory now.memory)
    (within c.args.tables.1 c.args.chained c.args.always c.args.sense at at.write 0 mid c.args.memory.now
    c.args.flags.now c.args.flags.now c.loop-t.flags now.flags)
    (all_apart_sooner at to (g.row.L * c.args.whole) few c.requires.apart) in
    rw next (record {
      memory = joined c.args.tables.0 false c.args.always c.args.sense at at.a 0 mid to c.args.memory.now
          c.loop-t.memory c.args.flags.now c.loop-t.flags c.args.memory.now c.loop-t.memory c.block.new.memory
          (omega arith) (omega arith) now.memory c.block.ensures.memory same;
      flags = joined c.args.tables.1 c.args.chained c.args.always c.args.sense at at.write 0 mid to c.args.memory.now
          c.loop-t.memory c.args.flags.now c.loop-t.flags c.args.flags.now c.loop-t.flags c.block.new.flags
          (omega arith) (omega arith) now.flags c.block.ensures.flags same;
    })
