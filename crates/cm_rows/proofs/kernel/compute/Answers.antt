use Rattle.std.proofs.Common.{false, ℕ, ◌*◌, ◌/◌, arith}
use Rattle.cm_rows.proofs.Joining.{joined, unread, within, AreUnread}
use Rattle.cm_rows.proofs.kernel.compute.Goals as goal

pub returns-clause-memory : goal.returns-clause-memory
returns-clause-memory c =
    let at = c.args.at in
    let mid : ℕ = 32 * (c.args.count / 32) in
    let same : AreUnread at mid c.args.count c.args.memory.now c.all_blocks.new.memory c.args.flags.now
    c.all_blocks.new.flags =
    unread at 0 mid c.args.count c.args.memory.now c.all_blocks.new.memory c.args.flags.now c.all_blocks.new.flags
    (within c.args.tables.0 false c.args.always c.args.sense at at.a 0 mid c.args.memory.now c.args.flags.now
    c.args.memory.now c.all_blocks.new.memory c.all_blocks.ensures.memory)
    (within c.args.tables.1 c.args.chained c.args.always c.args.sense at at.write 0 mid c.args.memory.now
    c.args.flags.now c.args.flags.now c.all_blocks.new.flags c.all_blocks.ensures.flags)
    c.requires.apart in
    joined c.args.tables.0 false c.args.always c.args.sense at at.a 0 mid c.args.count c.args.memory.now
    c.all_blocks.new.memory c.args.flags.now c.all_blocks.new.flags c.args.memory.now c.all_blocks.new.memory
    c.compute_words.new.memory
    (omega arith) (omega arith) c.all_blocks.ensures.memory c.compute_words.ensures.memory same

pub returns-clause-flags : goal.returns-clause-flags
returns-clause-flags c =
    let at = c.args.at in
    let mid : ℕ = 32 * (c.args.count / 32) in
    let same : AreUnread at mid c.args.count c.args.memory.now c.all_blocks.new.memory c.args.flags.now
    c.all_blocks.new.flags =
    unread at 0 mid c.args.count c.args.memory.now c.all_blocks.new.memory c.args.flags.now c.all_blocks.new.flags
    (within c.args.tables.0 false c.args.always c.args.sense at at.a 0 mid c.args.memory.now c.args.flags.now
    c.args.memory.now c.all_blocks.new.memory c.all_blocks.ensures.memory)
    (within c.args.tables.1 c.args.chained c.args.always c.args.sense at at.write 0 mid c.args.memory.now
    c.args.flags.now c.args.flags.now c.all_blocks.new.flags c.all_blocks.ensures.flags)
    c.requires.apart in
    joined c.args.tables.1 c.args.chained c.args.always c.args.sense at at.write 0 mid c.args.count c.args.memory.now
    c.all_blocks.new.memory c.args.flags.now c.all_blocks.new.flags c.args.flags.now c.all_blocks.new.flags
    c.compute_words.new.flags
    (omega arith) (omega arith) c.all_blocks.ensures.flags c.compute_words.ensures.flags same
