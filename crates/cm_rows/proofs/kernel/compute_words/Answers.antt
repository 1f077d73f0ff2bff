use Rattle.std.proofs.Common.{false, ◌≤◌, ℕ, ◌+◌, arith}
use Rattle.cm_rows.proofs.Joining.{joined, unread, within, all_apart_sooner, AreUnread}
use Rattle.cm_rows.proofs.kernel.compute_words.Goals as goal

pub loop-k-preserved : goal.loop-k-preserved
loop-k-preserved c =
    let at = c.args.at in
    let mid : ℕ = c.loop-k.k in
    let to : ℕ = c.loop-k.k + 1 in
    let few : c.loop-k.k + 1 ≤ c.args.to = omega arith in
    let low : c.args.from ≤ c.loop-k.k = c.loop-k.auto.k in
    let now = c.loop-k.invariant in
    let same : AreUnread at mid to c.args.memory.now c.loop-k.memory c.args.flags.now c.loop-k.flags =
    unread at c.args.from mid to c.args.memory.now c.loop-k.memory c.args.flags.now c.loop-k.flags
    (within c.args.tables.0 false c.args.always c.args.sense at at.a c.args.from mid c.args.memory.now c.args.flags.now
    c.args.memory.now c.loop-k.memory now.memory)
    (within c.args.tables.1 c.args.chained c.args.always c.args.sense at at.write c.args.from mid c.args.memory.now
    c.args.flags.now c.args.flags.now c.loop-k.flags now.flags)
    (all_apart_sooner at to c.args.to few c.requires.apart) in
    record {
      memory = joined c.args.tables.0 false c.args.always c.args.sense at at.a c.args.from mid to c.args.memory.now
          c.loop-k.memory c.args.flags.now c.loop-k.flags c.args.memory.now c.loop-k.memory c.word.new.memory
          low (omega arith) now.memory c.word.ensures.memory same;
      flags = joined c.args.tables.1 c.args.chained c.args.always c.args.sense at at.write
          c.args.from mid to c.args.memory.now c.loop-k.memory c.args.flags.now c.loop-k.flags c.args.flags.now
          c.loop-k.flags c.word.new.flags
          low (omega arith) now.flags c.word.ensures.flags same;
    }
