use Rattle.std.proofs.Common.{false, length, arith}
use Rattle.cm_rows.proofs.Joining.{one_tile}
use Rattle.cm_rows.proofs.kernel.tile.Goals as goal

pub returns-clause-memory : goal.returns-clause-memory
returns-clause-memory c =
    one_tile (length c.args.choice.now) c.args.tables.0 false c.args.always c.args.sense c.args.at c.args.at.a c.args.from
    c.args.memory.now c.args.flags.now c.args.memory.now c.merge.new.row c.choose.new.choice c.find_outputs.new.found
    c.choose.ensures.value
    (λ k h. c.find_outputs.ensures.value k (omega (arith, h, c.requires.mem)))
    (λ k h. c.merge.ensures.value k (omega (arith, h, c.requires.mem, c.find_outputs.auto.found)))
    c.merge.ensures.below
    (λ i h. c.merge.ensures.above i (omega (arith, h, c.requires.mem, c.find_outputs.auto.found)))

pub returns-clause-flags : goal.returns-clause-flags
returns-clause-flags c =
    one_tile (length c.args.choice.now) c.args.tables.1 c.args.chained c.args.always c.args.sense c.args.at c.args.at.write
    c.args.from c.args.memory.now c.args.flags.now c.args.flags.now c.merge-2.new.row c.choose.new.choice
    c.find_outputs-2.new.found c.choose.ensures.value
    (λ k h. c.find_outputs-2.ensures.value k (omega (arith, h, c.requires.flag)))
    (λ k h. c.merge-2.ensures.value k (omega (arith, h, c.requires.flag, c.find_outputs-2.auto.found)))
    c.merge-2.ensures.below
    (λ i h. c.merge-2.ensures.above i (omega (arith, h, c.requires.flag, c.find_outputs-2.auto.found)))
