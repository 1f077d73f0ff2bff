use Rattle.std.proofs.Common.{false, ◌≡◌, ◌≤◌, ℕ, ◌+◌, ◌*◌, arith}
use Rattle.cm_rows.proofs.Joining.{joined, unread_memory, within, apart_sooner, one_more, block_fits}
use Rattle.cm_rows.proofs.memory_alone.compute_blocks.Goals as goal

pub loop-t-preserved : goal.loop-t-preserved
loop-t-preserved g c =
    let at = c.args.at in
    let mid : ℕ = g.row.L * c.loop-t.t in
    let to : ℕ = g.row.L * c.loop-t.t + g.row.L in
    let next : g.row.L * (c.loop-t.t + 1) ≡ g.row.L * c.loop-t.t + g.row.L = one_more g.row.L c.loop-t.t in
    let few : g.row.L * c.loop-t.t + g.row.L ≤ g.row.L * c.args.whole =
    block_fits g.row.L c.loop-t.t c.args.whole (omega arith) in
    rw next (joined c.args.table false c.args.always c.args.sense at at.a 0 mid to c.args.memory.now c.loop-t.memory
    c.args.flags.now c.args.flags.now c.args.memory.now c.loop-t.memory c.block.new.memory
    (omega arith) (omega arith) c.loop-t.invariant c.block.ensures.memory
    (unread_memory at 0 mid to c.args.memory.now c.loop-t.memory c.args.flags.now
    (within c.args.table false c.args.always c.args.sense at at.a 0 mid c.args.memory.now c.args.flags.now
    c.args.memory.now c.loop-t.memory c.loop-t.invariant)
    (apart_sooner at.a at.b to (g.row.L * c.args.whole) few c.requires.b_apart)))
