use Rattle.std.proofs.Common.{None, length, arith}
use Rattle.cm_model.proofs.Each.{is_each}
use Rattle.cm_slots.specs.Runs.{ticket_leaving_chip}
use Rattle.cm_slots.proofs.departing.write_down.Goals as goal

pub returns : goal.returns
returns c = record {
  value = is_each None (length c.args.leavers.now) (ticket_leaving_chip c.args.leaving.now) c.loop-c.leavers
      c.loop-c.auto.leavers (λ i h. c.loop-c.invariant.done i (omega arith));
}
