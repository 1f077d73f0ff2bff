use Rattle.std.proofs.Common.{false, ◌≤◌, ℕ, ◌+◌, arith}
use Rattle.cm_rows.proofs.Joining.{joined, unread_memory, within, apart_sooner}
use Rattle.cm_rows.proofs.memory_alone.compute_words.Goals as goal

pub loop-k-preserved : goal.loop-k-preserved
loop-k-preserved c =
    let at = c.args.at in
    let mid : ℕ = c.loop-k.k in
    let to : ℕ = c.loop-k.k + 1 in
    let few : c.loop-k.k + 1 ≤ c.args.to = omega arith in
    let low : c.args.from ≤ c.loop-k.k = c.loop-k.auto.k in
    joined c.args.table false c.args.always c.args.sense at at.a c.args.from mid to c.args.memory.now c.loop-k.memory
    c.args.flags.now c.args.flags.now c.args.memory.now c.loop-k.memory c.word.new.memory
    low (omega arith) c.loop-k.invariant c.word.ensures.memory
    (unread_memory at c.args.from mid to c.args.memory.now c.loop-k.memory c.args.flags.now
    (within c.args.table false c.args.always c.args.sense at at.a c.args.from mid c.args.memory.now c.args.flags.now
    c.args.memory.now c.loop-k.memory c.loop-k.invariant)
    (apart_sooner at.a at.b to c.args.to few c.requires.b_apart))
