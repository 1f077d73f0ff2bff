use Rattle.std.proofs.Common.{false, ℕ, ◌*◌, ◌/◌, arith}
use Rattle.cm_rows.proofs.Joining.{joined, unread_memory, within}
use Rattle.cm_rows.proofs.memory_alone.compute_memory.Goals as goal

pub returns : goal.returns
returns c =
    let at = c.args.at in
    let mid : ℕ = 32 * (c.args.count / 32) in
    record {
      memory = joined c.args.table false c.args.always c.args.sense at at.a 0 mid c.args.count c.args.memory.now
          c.all_blocks.new.memory c.args.flags.now c.args.flags.now c.args.memory.now c.all_blocks.new.memory
          c.compute_words.new.memory
          (omega arith) (omega arith) c.all_blocks.ensures.memory c.compute_words.ensures.memory
          (unread_memory at 0 mid c.args.count c.args.memory.now c.all_blocks.new.memory c.args.flags.now
          (within c.args.table false c.args.always c.args.sense at at.a 0 mid c.args.memory.now c.args.flags.now
          c.args.memory.now c.all_blocks.new.memory c.all_blocks.ensures.memory)
          c.requires.b_apart);
    }
