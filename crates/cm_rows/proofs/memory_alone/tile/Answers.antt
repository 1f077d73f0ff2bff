use Rattle.std.proofs.Common.{false, length, arith}
use Rattle.cm_rows.proofs.Joining.{one_tile}
use Rattle.cm_rows.proofs.memory_alone.tile.Goals as goal

pub returns : goal.returns
returns c = record {
  memory = one_tile (length c.args.choice.now) c.args.table false c.args.always c.args.sense c.args.at c.args.at.a
      c.args.from c.args.memory.now c.args.flags.now c.args.memory.now c.merge.new.row c.choose.new.choice
      c.find_outputs.new.found c.choose.ensures.value
      (λ k h. c.find_outputs.ensures.value k (omega (arith, h, c.requires.mem)))
      (λ k h. c.merge.ensures.value k (omega (arith, h, c.requires.mem, c.find_outputs.auto.found)))
      c.merge.ensures.below
      (λ i h. c.merge.ensures.above i (omega (arith, h, c.requires.mem, c.find_outputs.auto.found)));
}
